pub mod Queued
pub mod Sound
