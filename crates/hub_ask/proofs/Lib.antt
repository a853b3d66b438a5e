pub mod Counting
pub mod Exchanges
pub mod Sent
pub mod Replied
pub mod Tellings
pub mod Durations
