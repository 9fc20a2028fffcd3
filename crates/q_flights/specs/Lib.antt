pub mod Flying
pub mod Heads
pub mod Sound
