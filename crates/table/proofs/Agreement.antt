pub mod Calls
pub mod Tallies
pub mod Theorem
