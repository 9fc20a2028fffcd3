mod Bounds
pub mod Changes
mod Counted
mod Counts
mod Firsts
pub mod Hearing
pub mod Kept
mod Numbered
mod Registers
pub mod Revivals
pub mod Settling
