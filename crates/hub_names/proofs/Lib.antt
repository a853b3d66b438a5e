pub mod Speakers
pub mod KeptFifodirs
mod Changes
pub mod LastWords
