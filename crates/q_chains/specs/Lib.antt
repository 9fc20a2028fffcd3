pub mod Lists
pub mod Laid
pub mod Onward
pub mod Slots
