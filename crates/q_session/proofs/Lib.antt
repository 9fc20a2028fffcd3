pub mod Acting
pub mod Beginnings
pub mod CodeLaws
pub mod Commands
pub mod ContentFills
pub mod ContentPlaces
pub mod Dialogues
pub mod Hearings
pub mod Inboxes
pub mod Outboxes
pub mod Polling
pub mod Sendings
mod Sparing
pub mod Standing
pub mod Traffic
mod Using
