-- What public clauses cite, and so what a caller reads
pub mod WriteLogFault
pub mod WriteLog
pub mod Reading
pub mod Writing
pub mod View
pub mod WriteLogs
pub mod Front
