pub mod Recording
pub mod Replay
pub mod Reaching
pub mod Steps
