pub mod Parameters
pub mod Times
pub mod Values
pub mod Readings
pub mod ParameterFile
pub mod Drafts
