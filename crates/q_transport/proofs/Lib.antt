mod ContentLaws
mod EntryLaws
mod LawfulLaws
mod NameLaws
mod NumberLaws
mod ReadLaws
mod RouteLaws
