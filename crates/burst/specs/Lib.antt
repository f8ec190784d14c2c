pub mod Burst
pub mod Singles
pub mod Reaching
pub mod ArrivalOrder
