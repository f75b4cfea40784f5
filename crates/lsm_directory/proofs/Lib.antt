mod Padding
mod Quiet
mod TellingLaws
mod LogLaws
mod BesideLaws
mod LookLaws
mod NameNumberLaws
mod FileKindLaws
mod FolderLaws
pub mod CallerLemmas
