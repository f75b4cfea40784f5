pub use Rattle.lsm_model.specs.Ages
pub use Rattle.lsm_model.specs.Merging
pub use Rattle.lsm_model.specs.Scanning
pub use Rattle.lsm_model.specs.Streams
-- What public clauses cite, and so what a caller reads
pub mod Heads
pub mod Runs
pub mod Seeking
pub mod Tree
pub mod Shown
pub mod Walks
-- What private functions and proofs cite alone
pub mod Followed
