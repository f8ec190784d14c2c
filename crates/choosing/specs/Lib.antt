pub mod Marked
pub mod Latest
pub mod Choose
pub mod Lateness
