pub mod Datagrams
pub mod Steps
pub mod Reaching
pub mod ReducedSize
pub mod ArrivalOrder
