pub mod Books
pub mod Throughout
pub mod Windows
pub mod Entries
pub mod OneByOne
pub mod LawfulLives
pub mod Done
pub mod Causes
pub mod Caused
pub mod CausedLives
pub mod Standing
pub mod Bounced
pub mod BouncedLives
pub mod Growing
pub mod MarkChanges
pub mod KeptMarks
pub mod Came
pub mod Remembered
pub mod RepeatLives
pub mod BouncedFew
mod WorkedLives
mod WorkedBounces
mod WorkedTools
pub mod AsArrived
pub mod ArrivedLives
pub mod ToolSteps
