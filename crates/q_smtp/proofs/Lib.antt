mod DialogueRows
pub mod Endings
pub mod SettledLists
pub mod Rests
pub mod Wholes
