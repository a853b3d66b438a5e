pub mod Names
pub mod Ranges
pub mod Texts
pub mod Listings
pub mod Refusals
pub mod Lateness
pub mod Room
pub mod Wills
