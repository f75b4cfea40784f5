-- What proofs above may cite: where tables stand in a level, files of levels, and parts of a version.
pub use Rattle.lsm_version.proofs.Ascending.{table_ascends}
pub use Rattle.lsm_version.proofs.ChangedFiles.{all_has, files_has, has_files, level_of_files}
pub use Rattle.lsm_version.proofs.Changing.{kept_more, level_at}
pub use Rattle.lsm_version.proofs.LevelFiles.{file_in, files_push, in_files, inside, level_in-map, of_level, order_in, push_last, push_left, table_fits, took}
pub use Rattle.lsm_version.proofs.Parts.{lawful_part, sound_level, sound_part, sound_rest}
pub use Rattle.lsm_version.proofs.Placing.{EachAfter, each_after, each_filter, placed_at, placed_sorted, tables_rank}
pub use Rattle.lsm_version.proofs.Rising.{ahead_or_same, begins_later, has_at, level_rises}
