pub mod BucketLaws
pub mod CountLaws
pub mod RowLaws
pub mod TextLaws
