pub mod Plain
pub mod Tested
mod Views
mod Changes
pub mod Walk
mod Releasing
mod HeldRows
pub mod Short
