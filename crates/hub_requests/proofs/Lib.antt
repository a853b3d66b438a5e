pub mod NextHandle
pub mod NumbersText
pub mod NamesText
pub mod FittingNames
mod AbsentNames
