-- What proofs of the crates above cite beside the public contracts.
pub use Rattle.lsm_batch.proofs.CallerLemmas.{last_write-append}
pub use Rattle.lsm_lines.proofs.CutLaws.{cut_last, cut_more, cut_none, joined-append}
