pub mod Lanes
pub mod Walking
pub mod Marks
