pub mod Inputs
pub mod IdLines
