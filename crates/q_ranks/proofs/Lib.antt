pub mod Alone
pub mod Rising
pub mod Walked
pub mod Standing
pub mod Firsts
mod OrderRows
