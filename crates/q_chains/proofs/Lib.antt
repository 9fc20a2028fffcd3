pub mod Numbers
pub mod Places
pub mod Paths
pub mod Borders
pub mod Walks
pub mod Writes
pub mod Calls
pub mod Fresh
pub mod Neighbours
pub mod Once
pub mod Chained
pub mod Steps
pub mod Slots
mod ListRows
