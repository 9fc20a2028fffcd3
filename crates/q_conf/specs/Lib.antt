pub mod ConfReads
pub mod Confs
