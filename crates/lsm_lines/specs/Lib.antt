-- What clauses cite
pub mod Reading
pub mod Pieces
pub mod LastWrites
pub mod Objects
pub mod Lines
pub mod Buffering
pub mod Gathering
pub mod Filling
pub mod Cuts
pub mod Passing
