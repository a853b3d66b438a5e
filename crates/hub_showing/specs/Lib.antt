pub mod Breaking
pub mod Looking
pub mod Following
