pub mod ReadingLaws
pub mod WritingLaws
pub mod LogLaws
pub mod FlagLaws
pub mod AppendLaws
pub mod TornBytes
pub mod AppendCalls
