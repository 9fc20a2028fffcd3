pub mod Counted
pub mod Listed
pub mod Orders
pub mod Queues
pub mod Steps
pub mod Walks
