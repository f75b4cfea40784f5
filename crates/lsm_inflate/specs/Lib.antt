-- What public clauses cite, and so what a caller reads
pub mod Fault
pub mod Reading
pub mod StoredContents
pub mod PackedTable
pub mod PackedReading
pub mod Filling
