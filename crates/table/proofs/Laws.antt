pub mod Members
pub mod Search
pub mod Cases
pub mod Filing
