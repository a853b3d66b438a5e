pub mod Reaching
pub mod Faults
pub mod HubLines
pub mod BadWords
pub mod Words
pub mod Endings
pub mod Troubles
