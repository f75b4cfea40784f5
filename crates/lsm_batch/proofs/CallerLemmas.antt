-- What proofs of the crates above cite beside the public contracts.
pub use Rattle.lsm_batch.proofs.LimitLaws.{bytes_more, fits_from, length_more, small_fit}
pub use Rattle.lsm_batch.proofs.LastLaws.{last_write-append}
