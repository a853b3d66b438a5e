pub mod Looks
pub mod Shares
pub mod Leaving
