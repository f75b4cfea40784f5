-- What public clauses cite, and so what a caller reads
pub mod BatchInput
pub mod Ingesting
pub mod Ingested
pub mod Cleaning
pub mod Cleaned
