pub mod Encoding
pub mod Runs
