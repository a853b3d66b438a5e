pub mod Passed
pub mod Gathered
pub mod Lost
