pub mod GivenSessions
pub mod Joined
pub mod Crewed
