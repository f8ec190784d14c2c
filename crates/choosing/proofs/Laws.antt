pub mod Marked
pub mod Counted
pub mod Latest
pub mod Candidates
pub mod Biased
pub mod Verdict
