pub mod Generations
pub mod JsonLines
pub mod Metrics
pub mod Tallies
