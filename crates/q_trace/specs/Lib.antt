pub mod Answers
pub mod Bodies
pub mod Bounds
pub mod Kinds
pub mod PartTexts
pub mod Parts
pub mod Wording
