-- What public clauses cite, and so what a caller reads
pub mod Waiting
pub mod Noting
pub mod Run
pub mod Compared
