-- What public clauses cite, and so what a caller reads
pub mod WriterFault
pub mod CompactFault
pub mod Parts
pub mod Names
pub mod Tidying
pub mod Preparing
pub mod Starting
pub mod Quick
pub mod Reading
pub mod Compactions
