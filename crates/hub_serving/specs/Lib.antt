pub mod Serving
pub mod Setup
pub mod Pending
pub mod Crowds
pub mod Doors
pub mod Noting
pub mod Troubles
