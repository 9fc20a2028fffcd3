pub mod Turns
pub mod Heading
pub mod Suspending
pub mod Laning
pub mod Moving
pub mod Sound
pub mod Filing
