pub mod Calls
pub mod Ids
pub mod Joining
pub mod Results
