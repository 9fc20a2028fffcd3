pub mod Schedule
pub mod Sound
pub mod Best
pub mod Ranking
