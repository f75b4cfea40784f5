mod Numbers
mod StateLaws
mod EditionLaws
mod Removing
mod Listed
mod OpenLaws
mod UnjudgedLaws
pub mod ReserveLaws
mod ChangeLaws
mod AskedLaws
mod GatherLaws
mod IngestLaws
mod Inputs
mod LargestKeys
mod InstallLaws
pub mod CallerLemmas
