-- What clauses cite
pub mod Asks
pub mod Mistakes
pub mod MistakeText
pub mod Pairs
pub mod Said
pub mod Reasoned
pub mod Batching
pub mod Rounds
pub mod Statistics
pub mod Talk
pub mod Keeping
pub mod Beside
pub mod Asked
pub mod Conversing
pub mod Reading
pub mod ShellFault
pub mod Talked
