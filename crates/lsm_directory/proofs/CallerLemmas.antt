-- What proofs of the crates above cite beside the public contracts.
pub use Rattle.lsm_directory.proofs.Quiet.{keeps_same, keeps_then}
pub use Rattle.lsm_directory.proofs.Padding.{padded_integral_six}
pub use Rattle.lsm_directory.proofs.TellingLaws.{stopped_by}
pub use Rattle.lsm_directory.proofs.FolderLaws.{shelf_at, shelf_over}
