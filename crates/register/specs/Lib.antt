pub mod Register
pub mod Tallies
pub mod Choosing
pub mod Promise
pub mod Letter
pub mod ArrivalOrder
pub mod SettingsCheck
pub mod SettingsPromise
