pub mod Feeds
pub mod Progress
pub mod Faults
