pub mod Held
pub mod Sound
