pub mod LineLaws
pub mod LineWalks
pub mod LineRanks
pub mod RankedChoice
mod NumberLaws
mod RankLaws
mod LineSteps
