-- What public clauses cite, and so what a caller reads
pub mod Holding
pub mod Folders
pub mod Looking
pub mod FileNames
pub mod Logs
pub mod Rest
pub mod Beside
pub mod DirectoryFault
pub mod Inputs
-- What private functions and proofs cite alone
pub mod Telling
