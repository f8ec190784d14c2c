pub mod Free
pub mod Bits
