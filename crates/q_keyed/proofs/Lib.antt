pub mod Inserted
pub mod Items
pub mod Moves
pub mod Filed
pub mod Standing
pub mod Places
pub mod Changes
pub mod Values
