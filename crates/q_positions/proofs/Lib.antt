mod Cells
mod Standing
pub mod Short
