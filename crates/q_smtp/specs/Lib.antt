pub mod Codes
pub mod ContentLines
pub mod Dialogue
pub mod Replies
pub mod ReplyLines
pub mod WholeDialogues
