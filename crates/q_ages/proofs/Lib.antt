pub mod AddingLaws
pub mod QueueLaws
pub mod FewCounts
