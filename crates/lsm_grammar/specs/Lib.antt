-- What public clauses cite, and so what a caller reads
pub mod Grammar
pub mod Pages
pub mod BenchmarkList
pub mod Requests
