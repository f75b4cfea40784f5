-- What public clauses cite, and so what a caller reads
pub mod Directory
pub mod Listing
pub mod JsonLines
pub mod Scanned
pub mod Opening
pub mod Answers
pub mod Quick
pub mod LookFault
pub mod Seen
pub mod Looked
-- What private functions and proofs cite alone
pub mod ReadFault
