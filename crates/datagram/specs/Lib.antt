pub mod Walk
pub mod Datagram
pub mod Answers
