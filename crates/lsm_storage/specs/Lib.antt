-- What public clauses cite, and so what a caller reads
pub mod Account
pub mod Changes
pub mod MemoryShelf
pub mod FileNames
pub mod FolderFault
pub mod Plans
pub mod FileShelf
-- What private functions and proofs cite alone
pub mod Directory
