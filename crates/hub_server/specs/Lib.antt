pub mod Sessions
pub mod Gates
pub mod Turns
pub mod Doors
pub mod Promised
pub mod Reports
pub mod Crews
pub mod Quotas
