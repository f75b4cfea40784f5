-- What public clauses cite, and so what a caller reads
pub mod Fault
pub mod BuildFault
pub mod Block
pub mod Reading
pub mod Seeking
pub mod Held
pub mod Standing
pub mod Building
-- What private functions and proofs cite alone
pub mod Walking
pub mod KeyParts
