mod Counting
mod StandingKeys
mod KeyLengths
mod Standing
mod Differing
mod Wholes
mod Recoveries
mod Loops
mod Alike
mod Recording
mod FreeNumbers
mod Finding
mod Made
pub mod CallerLemmas
pub mod AfterManifest
