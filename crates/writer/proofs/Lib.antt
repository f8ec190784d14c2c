pub mod Laws
pub mod WriteRead
pub mod ReadWrite
