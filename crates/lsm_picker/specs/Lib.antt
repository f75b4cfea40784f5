-- What public clauses cite, and so what a caller reads
pub mod TablePlans
pub mod Reservations
pub mod Scores
pub mod Choice
pub mod Moves
pub mod RangesBelow
pub mod PlanFault
pub mod Gathering
pub mod Joining
pub mod Outermost
pub mod Stairs
pub mod Manual
-- What private functions and proofs cite alone
pub mod TableRanges
