mod DueTimes
mod Sought
mod StateLaws
mod LineLaws
mod BookTexts
mod ContentLaws
mod ContentPlaces
mod ShownLaws
