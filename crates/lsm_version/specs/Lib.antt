pub use Rattle.lsm_model.specs.Files
pub use Rattle.lsm_model.specs.Kept
pub use Rattle.lsm_model.specs.Jobs
pub use Rattle.lsm_model.specs.Plans
pub use Rattle.lsm_model.specs.Streams
pub use Rattle.lsm_model.specs.Merging
pub use Rattle.lsm_model.specs.Ranges
pub use Rattle.lsm_model.specs.Ages
pub use Rattle.lsm_model.specs.Scanning
pub use Rattle.lsm_model.specs.Checking
-- What public clauses cite, and so what a caller reads
pub mod Versions
pub mod Changes
pub mod Reads
pub mod Overlap
-- What crates above cite alone
pub mod FileNumbers
