mod Lists
mod Varints
mod Keys
mod Newest
mod KeyParts
mod KeyOrder
mod KeyBytes
mod InternalKeys
mod Shifts
mod TableFacts
mod Blocks
mod SkipFacts
mod WordLaws
mod VectorLaws
mod LaneLaws
pub mod CallerLemmas
