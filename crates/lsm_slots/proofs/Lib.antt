mod Elements
mod SlotLaws
mod SnapshotLaws
pub mod CallerLemmas
