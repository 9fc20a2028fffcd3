pub mod NextLines
pub mod Leading
pub mod ItemForms
