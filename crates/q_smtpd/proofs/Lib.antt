mod IntakeRows
mod LineEnds
mod Contents
mod Traffic
mod Hearings
pub mod Following
mod Pacing
mod Using
mod Polling
mod Stepping
mod Results
mod Fitting
