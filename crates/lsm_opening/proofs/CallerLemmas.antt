-- What proofs of the crates above cite beside the public contracts.
pub use Rattle.lsm_opening.proofs.NameKindLaws.{kind_is}
pub use Rattle.lsm_opening.proofs.NameLaws.{all_names, next_name}
pub use Rattle.lsm_opening.proofs.ReadingLaws.{reads_later, reads_none}
pub use Rattle.lsm_opening.proofs.SweepLaws.{looked_same}
