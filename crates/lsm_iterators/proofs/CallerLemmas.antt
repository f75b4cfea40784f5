-- What proofs above may cite: of entries from a user key on.
pub use Rattle.lsm_iterators.proofs.SeekLaws.{least, past_all}
