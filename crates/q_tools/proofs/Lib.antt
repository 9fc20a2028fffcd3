pub mod ActiveWalks
pub mod AtRest
pub mod Behind
pub mod LifeErrors
pub mod LifeItems
pub mod ToldDeeds
pub mod ToolCauses
pub mod ToolLives
