pub mod Header
pub mod IdmsBlock
