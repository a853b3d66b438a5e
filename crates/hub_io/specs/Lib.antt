pub mod Lines
pub mod Telling
pub mod Faults
pub mod Counted
