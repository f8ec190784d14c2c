pub mod Times
pub mod Wired
