pub mod Lookings
pub mod Followings
