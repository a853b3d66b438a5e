pub mod Runs
pub mod Cuts
pub mod CutLines
pub mod UnderWay
pub mod Placed
pub mod Alike
