pub mod Watching
pub mod Inside
pub mod Histories
pub mod Verdicts
pub mod Reading
pub mod Posts
pub mod Waits
