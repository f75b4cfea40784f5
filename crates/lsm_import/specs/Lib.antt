-- What public clauses cite, and so what a caller reads
pub mod ImportFault
pub mod Copies
pub mod Copied
pub mod LogTable
pub mod Standing
pub mod Answers
