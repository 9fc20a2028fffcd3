pub mod Tickets
pub mod Blocks
