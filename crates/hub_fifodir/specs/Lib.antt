pub mod Locks
pub mod Events
pub mod Rule
pub mod Steps
pub mod Notes
pub mod Passes
pub mod Laws
