pub mod Fitting
pub mod Exhausting
pub mod Stepping
pub mod Working
pub mod Results
