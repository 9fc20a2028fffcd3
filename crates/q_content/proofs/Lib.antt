pub mod EncodingLaws
pub mod RunLaws
pub mod FrontLaws
pub mod LineLaws
