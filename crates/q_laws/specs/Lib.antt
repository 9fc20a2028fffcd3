pub mod Consistency
pub mod SitesConsistency
pub mod Traces
pub mod Laws
pub mod Resting
