pub mod Answers
pub mod Refusals
pub mod Blocks
pub mod ItemPlaces
pub mod Advance
pub mod Cursor
pub mod Puts
pub mod Rows
