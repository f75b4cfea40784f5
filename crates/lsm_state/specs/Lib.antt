-- What public clauses cite, and so what a caller reads
pub mod Options
pub mod StateFault
pub mod Held
pub mod Reading
pub mod Collecting
pub mod Making
pub mod Listing
pub mod Opening
pub mod Unjudged
pub mod Reserving
pub mod Changing
pub mod Ingesting
pub mod Gathering
pub mod GatherFault
pub mod Installing
pub mod Asked
pub mod Editions
-- What private functions and proofs cite alone
pub mod LargestKeys
