pub mod Appends
pub mod Codes
pub mod Flags
pub mod HasRecords
pub mod OpenRecords
pub mod StoredLogs
pub mod TmpNames
