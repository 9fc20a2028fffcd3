pub mod NumberLaws
pub mod PieceLaws
