-- what public clauses cite
pub mod Files
pub mod Kept
pub mod Jobs
pub mod Plans
pub mod Streams
pub mod Merging
pub mod Ranges
pub mod Ages
pub mod Scanning
pub mod Checking
-- the store as a plain machine
pub mod Plain
pub mod Law
pub mod Runs
