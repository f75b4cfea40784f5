-- What public clauses cite, and so what a caller reads
pub mod LeftOut
pub mod MendFault
pub mod OldManifest
pub mod Reading
pub mod Merging
pub mod Mending
pub mod FreeNumber
pub mod UnsureLogs
pub mod Repairing
