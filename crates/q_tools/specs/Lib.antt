pub mod Lives
pub mod Refusals
pub mod Resting
pub mod Tasks
pub mod ToolEnds
