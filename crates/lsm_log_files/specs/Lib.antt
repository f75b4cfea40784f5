-- What public clauses cite, and so what a caller reads
pub mod Logs
pub mod Source
pub mod Stops
