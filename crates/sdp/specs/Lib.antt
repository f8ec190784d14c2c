pub mod Digits
pub mod Line
pub mod Grammar
pub mod Answers
