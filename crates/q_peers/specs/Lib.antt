pub mod Numbered
pub mod Buckets
pub mod Slots
pub mod Sound
