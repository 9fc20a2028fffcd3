pub mod AnswerLaws
pub mod GivenLaws
pub mod WordLaws
