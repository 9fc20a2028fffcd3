pub mod Moments
pub mod Stays
pub mod Puts
pub mod Sequences
pub mod Told
pub mod ReadPieces
pub mod NamesInOrder
pub mod NamesLeft
