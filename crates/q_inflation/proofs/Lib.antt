pub mod JobsLeft
pub mod Loading
pub mod Falling
pub mod Entered
pub mod Inflation
mod WorkedBound
