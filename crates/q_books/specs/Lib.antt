pub mod HostStands
pub mod NewMessages
pub mod Notes
pub mod Spots
