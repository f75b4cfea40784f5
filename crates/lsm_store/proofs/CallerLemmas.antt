-- What proofs of the crates above cite beside the public contracts: scans from a user key on, and
-- forks of a shelf, counted.
pub use Rattle.lsm_store.proofs.ScanLaws.{past_shown}
pub use Rattle.lsm_store.proofs.ForkLaws.{forked_at_most, forked_times, forking_more, forking_then}
