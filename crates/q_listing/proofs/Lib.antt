pub mod CodeLaws
pub mod GoneLaws
mod MessageLaws
pub mod RecipientLaws
pub mod ToldLaws
mod WholeFiles
