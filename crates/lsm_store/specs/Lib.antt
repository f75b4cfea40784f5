-- What public clauses cite, and so what a caller reads
pub mod Background
pub mod Compacting
pub mod Ends
pub mod Picking
pub mod Promised
pub mod Readers
pub mod Sweeping
pub mod WorkerFault
pub mod Workers
pub mod Working
