pub mod Files
pub mod Reads
pub mod NamesLeft
pub mod View
pub mod Steps
pub mod Calls
pub mod Faults
