pub mod DelayLaws
pub mod FrontLaws
pub mod TextLaws
pub mod WalkLaws
pub mod KeptLaws
pub mod SinceLaws
pub mod DelayedLaws
pub mod ToldLaws
pub mod BegunLaws
pub mod ReadingLaws
mod EndLaws
