pub mod Laws
mod Range
pub mod Theorems
pub mod Lent
