pub mod Messages
pub mod Words
