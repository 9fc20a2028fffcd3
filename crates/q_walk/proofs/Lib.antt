pub mod Ordered
pub mod Held
pub mod Leading
pub mod Reading
pub mod Counts
