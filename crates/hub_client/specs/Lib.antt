pub mod Faults
pub mod Relaying
pub mod Pending
pub mod Passing
pub mod UnderWay
