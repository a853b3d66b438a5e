pub mod Looking
pub mod Looks
pub mod Stops
pub mod Tables
pub mod Subscribing
pub mod Follows
