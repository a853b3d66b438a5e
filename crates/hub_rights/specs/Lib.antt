pub mod Asked
pub mod Limits
pub mod Looking
pub mod Records
