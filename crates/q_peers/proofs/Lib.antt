pub mod Items
pub mod Filed
pub mod Keys
pub mod Standing
pub mod Changes
pub mod Peers
pub mod Rests
mod NumberedRows
pub mod Short
