pub mod FileLaws
pub mod LoggedLaws
pub mod ReadingLaws
