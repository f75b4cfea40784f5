-- What public clauses cite, and so what a caller reads
pub mod Shown
pub mod Mirrored
pub mod Refusals
pub mod Counts
pub mod Held
