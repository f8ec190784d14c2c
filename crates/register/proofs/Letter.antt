pub mod Lines
pub mod Members
pub mod Tests
pub mod Tallies
pub mod Theorem
