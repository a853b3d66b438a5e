pub mod ServiceStates
pub mod Columns
pub mod LinesSoFar
