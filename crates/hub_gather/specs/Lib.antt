pub mod Steps
pub mod Gathering
pub mod Passing
