pub mod Fronts
pub mod Openings
pub mod Fitting
pub mod Rules
