pub mod PlayoutClock
pub mod OnTarget
