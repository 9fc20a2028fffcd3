pub mod Ranges
pub mod Fields
