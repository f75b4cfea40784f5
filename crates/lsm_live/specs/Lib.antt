-- What public clauses cite, and so what a caller reads
pub mod Booked
pub mod Planned
pub mod Reserving
pub mod Results
