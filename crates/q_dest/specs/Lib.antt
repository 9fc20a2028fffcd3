pub mod Counting
pub mod Dests
pub mod Ranks
pub mod Records
pub mod Sound
pub mod Windows
