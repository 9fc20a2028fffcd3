pub mod Kept
pub mod Pooled
pub mod Ranks
pub mod Slots
