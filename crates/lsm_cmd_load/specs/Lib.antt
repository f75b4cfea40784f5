-- What clauses cite
pub mod Loaded
pub mod LoadedAt
pub mod StoppedText
