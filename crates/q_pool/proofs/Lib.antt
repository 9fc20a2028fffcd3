pub mod ListLaws
pub mod PoolLaws
