-- What public clauses cite, and so what a caller reads
pub mod RepairFault
pub mod Repaired
