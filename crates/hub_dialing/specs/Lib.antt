pub mod Calls
pub mod Dialing
