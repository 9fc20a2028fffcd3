pub mod LineLaws
pub mod WordLists
pub mod Exactness
pub mod SolidTexts
pub mod NumberReads
pub mod WordReads
pub mod OutcomeReads
pub mod OutcomeFits
