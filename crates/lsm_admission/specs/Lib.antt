-- What public clauses cite, and so what a caller reads
pub mod FoundTables
pub mod Indexes
pub mod Keeping
pub mod AdmitRefusal
pub mod Admitted
pub mod Answered
pub mod KnownImages
pub mod KnownAnswers
