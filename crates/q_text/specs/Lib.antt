pub mod Lines
pub mod Blanks
pub mod ValueForms
pub mod ValueTexts
