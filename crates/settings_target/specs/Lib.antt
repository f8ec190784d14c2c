pub mod TargetLateness
pub mod TargetPromise
