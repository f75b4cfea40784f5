mod Laters
mod HistorySteps
pub mod CallerLemmas
