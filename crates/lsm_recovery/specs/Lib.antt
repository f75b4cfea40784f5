-- What public clauses cite, and so what a caller reads
pub mod BringFault
pub mod Bringing
pub mod Recovered
