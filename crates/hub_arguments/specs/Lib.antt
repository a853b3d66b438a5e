pub mod Words
pub mod Ranges
pub mod Environment
pub mod Wishes
