-- What clauses cite
pub mod Marks
pub mod Coming
pub mod Keeping
pub mod Ending
pub mod Loading
