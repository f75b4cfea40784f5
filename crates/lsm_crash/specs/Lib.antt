-- What public clauses cite, and so what a caller reads
pub mod Disk
pub mod Crash
pub mod Versions
pub mod Known
pub mod Operations
pub mod Among
pub mod History
pub mod States
pub mod Database
pub mod Lives
pub mod Refusing
pub mod Kept
