pub mod Steps
pub mod Tallies
pub mod Takes
pub mod KeptPosts
