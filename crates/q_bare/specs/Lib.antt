pub mod Bare
pub mod Counts
pub mod CountedRows
pub mod CountedRules
pub mod Laws
pub mod Judging
