pub mod Layout
pub mod Rows
pub mod Left
pub mod Entries
pub mod Calls
pub mod Running
pub mod Replayed
