pub mod TextLines
pub mod States
pub mod LineReadings
