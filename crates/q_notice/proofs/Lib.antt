pub mod NoticeLengths
pub mod TextPieces
