mod MarkGroupRows
mod MessageRows
mod NoticeRows
mod PreemptionRows
mod QueueRows
mod RestRows
mod SiteRows
mod ToolRows
pub mod CrashChanges
pub mod CrashLaws
pub mod DomainLaws
pub mod EachLaws
pub mod FailureLogLaws
pub mod FailureLogReads
pub mod FailuresLaws
pub mod IdLaws
pub mod LeastIds
pub mod LogRows
pub mod MarkChanges
pub mod MarkLaws
pub mod NameOrder
pub mod NumberTexts
pub mod PaddedLaws
pub mod QueueFileLaws
pub mod QueueFileReads
pub mod QueueFileRows
pub mod RecordLaws
pub mod RowWords
pub mod RunLaws
pub mod SpotLaws
pub mod StandChanges
pub mod StandDamaged
pub mod StandEntries
pub mod StandLaws
pub mod StandLogs
pub mod StandMoves
pub mod StandReads
pub mod StandRenames
