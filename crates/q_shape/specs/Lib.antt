pub mod Buckets
pub mod Counts
pub mod Tables
pub mod Counted
pub mod Rows
