pub mod Lines
pub mod Params
pub mod Settings
pub mod Routes
pub mod Deciding
pub mod InForce
pub mod Tellings
