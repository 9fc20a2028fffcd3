pub mod Rising
pub mod Counted
pub mod Found
mod Filled
