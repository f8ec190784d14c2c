pub mod Places
pub mod Free
