-- What public clauses cite, and so what a caller reads
pub mod Benchmarks
pub mod Inputs
pub mod KeyBounds
