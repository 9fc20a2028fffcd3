pub mod Finding
pub mod Lines
pub mod Shown
pub mod States
