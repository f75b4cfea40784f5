-- What public clauses cite, and so what a caller reads
pub mod Converted
pub mod Played
