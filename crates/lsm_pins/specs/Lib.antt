-- What public clauses cite, and so what a caller reads
pub mod Head
pub mod Known
pub mod Laws
pub mod Made
pub mod Rule
pub mod SlotRecord
pub mod View
-- What private functions and proofs cite alone
pub mod Pinner
pub mod Publisher
pub mod Step
