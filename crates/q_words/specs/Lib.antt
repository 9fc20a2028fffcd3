pub mod Commands
pub mod Given
pub mod Looks
pub mod Requests
pub mod Tools
pub mod Usages
