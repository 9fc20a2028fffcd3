pub mod FrontLaws
pub mod HeadLaws
pub mod NameLaws
pub mod NewFileLaws
pub mod PendingLaws
pub mod RecipientReads
pub mod RecordReads
pub mod WindowLaws
