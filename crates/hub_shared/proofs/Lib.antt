pub mod WaitedNames
pub mod Handling
pub mod NewDesks
pub mod Named
pub mod Sound
