mod NameKindLaws
mod NameLaws
mod Looked
mod TidyLaws
mod PartsLaws
mod StartLaws
mod QuickLaws
mod SweepLaws
mod ReadingLaws
pub mod CallerLemmas
