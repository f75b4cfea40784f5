-- What public clauses cite, and so what a caller reads
pub mod Causes
pub mod Cuts
pub mod Dropping
pub mod Gathering
pub mod InputOrder
pub mod Inputs
pub mod Limits
pub mod MergeFault
pub mod NumberFault
pub mod Outputs
pub mod PutBefore
pub mod Remembered
pub mod Work
-- What private functions and proofs cite alone
pub mod Compacting
pub mod Rows
