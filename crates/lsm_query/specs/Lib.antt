-- What public clauses cite, and so what a caller reads
pub mod Depths
pub mod Runs
pub mod Unread
