pub mod Numbering
pub mod Looks
pub mod Hearings
pub mod Nexts
pub mod Keeping
