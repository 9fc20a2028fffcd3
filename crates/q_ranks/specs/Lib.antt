pub mod Ranking
pub mod Sound
