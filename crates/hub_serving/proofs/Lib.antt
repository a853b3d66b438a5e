pub mod Results
pub mod CarriedOut
