pub mod WithLine
mod LineSets
mod Having
pub mod HavingLines
mod PeerLaws
mod HeadLaws
mod Placing
mod LaneLaws
mod LaneCounts
mod Choosing
mod RankSets
mod MovingLaws
mod TakenOut
mod MessageWalk
mod JobMoves
mod FiledAt
mod FilingLaws
mod PlacedAnew
mod TurnViews
mod TurnSteps
mod SuspensionLaws
pub mod TiedLaws
mod Reclassing
