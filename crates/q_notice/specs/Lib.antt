pub mod NoticeTexts
