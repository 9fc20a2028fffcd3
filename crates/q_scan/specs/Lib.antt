pub mod Walks
pub mod Fits
pub mod Filled
