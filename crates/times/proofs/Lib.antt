pub mod Steps
pub mod Laws
pub mod Wired
pub mod Vectors
