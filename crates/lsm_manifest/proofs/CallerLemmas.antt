-- What proofs of the crates above cite beside the public contracts.
pub use Rattle.lsm_manifest.proofs.RecordLaws.{log_again}
pub use Rattle.lsm_manifest.proofs.FileOrderLaws.{order_is}
pub use Rattle.lsm_manifest.proofs.LevelLaws.{file_total, file_lt, file_ranks}
pub use Rattle.lsm_manifest.proofs.LastLaws.{last_by-none, last_by-push, pointer_in-none}
pub use Rattle.lsm_manifest.proofs.ReplayLaws.{innocent_none, innocent_push}
pub use Rattle.lsm_manifest.proofs.StandingLaws.{has_snoc, snoc_has, snoc_parts, stands_snoc, snoc_stands, new_none}
pub use Rattle.lsm_manifest.proofs.ShapeLaws.{innocent_before, one_file_a_number, one_level, one_shape, refused_none}
pub use Rattle.lsm_manifest.proofs.ManifestLaws.{edits_push, one_manifest, none_spelled, grown, torn, first_edits}
pub use Rattle.lsm_manifest.proofs.EditFits.{edit_fits}
pub use Rattle.lsm_manifest.proofs.WholeEditLaws.{fresh_new, files_at, at_files, whole_innocent, whole_replays, whole_fits, replayed_shape, replayed_fits, manifest_fits}
