pub use Rattle.lsm_shelf.specs.Place
-- What public clauses cite, and so what a caller reads
pub mod Calls
pub mod Finding
pub mod FolderFault
pub mod MemoryFolder
pub mod SystemFolder
pub mod Truth
-- What private functions and proofs cite alone
pub mod Directory
pub mod OpenedFolder
pub mod SystemFault
