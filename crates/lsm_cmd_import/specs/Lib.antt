-- What public clauses cite, and so what a caller reads
pub mod CopyFault
pub mod Copying
pub mod Imported
