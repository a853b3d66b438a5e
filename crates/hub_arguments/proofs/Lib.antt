pub mod More
pub mod Wishes
