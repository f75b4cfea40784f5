-- What public clauses cite, and so what a caller reads
pub mod PreviewFault
pub mod Tables
pub mod Preview
