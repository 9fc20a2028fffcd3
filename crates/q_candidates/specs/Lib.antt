pub mod Candidates
pub mod Filing
pub mod Suspending
pub mod Sound
pub mod LaneLaws
pub mod Walking
pub mod Choosing
