pub mod FeedbackForms
pub mod FeedbackTexts
