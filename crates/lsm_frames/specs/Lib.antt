-- What public clauses cite, and so what a caller reads
pub mod Texts
pub mod Requests
pub mod Openings
pub mod Answers
pub mod Reading
pub mod OpeningView
pub mod Views
pub mod Held
pub mod Spelling
-- What private functions and proofs cite alone
pub mod RequestReading
pub mod OpeningReading
