pub mod Takes
pub mod Script
pub mod Clocks
