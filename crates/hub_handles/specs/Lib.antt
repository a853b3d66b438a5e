pub mod Taking
pub mod Hearings
pub mod Handles
pub mod Awaiting
pub mod Nexts
pub mod Requests
