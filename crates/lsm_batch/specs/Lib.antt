-- What public clauses cite, and so what a caller reads
pub mod Limits
pub mod Batches
pub mod BatchFault
pub mod Images
pub mod LastWrites
-- What private functions and proofs cite alone
pub mod Falling
