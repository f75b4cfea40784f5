-- What public clauses cite, and so what a caller reads
pub mod Databases
pub mod Calls
pub mod Keeping
pub mod Running
