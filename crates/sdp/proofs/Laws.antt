pub mod Digits
pub mod Frame
pub mod Line
