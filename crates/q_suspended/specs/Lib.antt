pub mod Suspensions
pub mod Sound
