pub mod EventLines
pub mod EventList
pub mod States
pub mod Readings
pub mod LineReadings
pub mod Forms
