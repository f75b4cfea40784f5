-- What public clauses cite, and so what a caller reads
pub mod RecoverFault
pub mod Recovered
