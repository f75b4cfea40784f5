-- What public clauses cite, and so what a caller reads
pub mod CheckFault
pub mod CheckedFiles
pub mod FileRefusal
pub mod CheckRefusal
pub mod AskedCalls
pub mod Loading
pub mod LevelLayouts
pub mod Settled
pub mod Counts
-- What private functions and proofs cite alone
pub mod Chosen
