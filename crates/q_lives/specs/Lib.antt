pub mod Bounces
pub mod Causes
pub mod Repeats
pub mod Standing
pub mod Throughout
pub mod Tools
pub mod Lives
