pub mod Bools
pub mod Bytes
pub mod Checks
pub mod Packet
pub mod Contents
pub mod Blocks
