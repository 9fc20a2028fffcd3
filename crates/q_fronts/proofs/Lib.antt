mod Ending
mod Onward
mod Back
pub mod Going
pub mod Opening
mod Fitting
