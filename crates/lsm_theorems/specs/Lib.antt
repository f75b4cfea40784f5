-- what public clauses cite
pub mod Calls
pub mod Database
pub mod Newest
pub mod Unchanged
pub mod FirstLife
pub mod SmallRun
pub mod Recoveries
pub mod Stored
