pub mod Ways
pub mod Tallying
pub mod Tallied
pub mod Exact
pub mod Bounded
