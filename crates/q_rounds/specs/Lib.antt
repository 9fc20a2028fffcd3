pub mod Rounds
pub mod Jobs
pub mod Listing
pub mod Walking
pub mod Sound
pub mod Changing
pub mod KeyLaws
pub mod RoundLaws
