pub mod Checks
pub mod Bytes
pub mod Packet
pub mod Report
pub mod Settings
pub mod Farewell
pub mod Contents
pub mod Answers
