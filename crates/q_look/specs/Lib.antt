pub mod Failures
pub mod FileFacts
pub mod FirstNames
pub mod Forms
pub mod Unreadable
