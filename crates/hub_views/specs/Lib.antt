pub mod ServiceStates
pub mod Descriptions
pub mod Json
pub mod EventLines
