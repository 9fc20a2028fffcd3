mod TallyLaws
pub mod CapLaws
pub mod LaterLaws
mod BoundLaws
