pub mod Jobs
pub mod Sound
