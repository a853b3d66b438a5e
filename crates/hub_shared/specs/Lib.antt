pub mod Waits
pub mod OpenPosts
pub mod Desks
pub mod Named
pub mod Sound
