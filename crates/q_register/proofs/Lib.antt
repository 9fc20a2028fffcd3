pub mod Standing
pub mod Indexing
pub mod Ranking
pub mod Placing
pub mod First
pub mod Gathered
pub mod Within
