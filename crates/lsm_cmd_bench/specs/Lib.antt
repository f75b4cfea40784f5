-- What clauses cite
pub mod Pairs
pub mod Filled
pub mod Benched
