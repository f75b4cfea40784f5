-- What proofs above may cite: laws of orders, of files and of merges, of plans, jobs and installs;
-- and of the machine's events, live jobs and snapshots, and of histories.
pub use Rattle.lsm_model.proofs.Beside.{in_order_distinct}
pub use Rattle.lsm_model.proofs.Checked.{file_fits}
pub use Rattle.lsm_model.proofs.Created.{created_law}
pub use Rattle.lsm_model.proofs.Cuts.{finished_holds, rising_numbers}
pub use Rattle.lsm_model.proofs.Depths.{depth_newest}
pub use Rattle.lsm_model.proofs.Drops.{drops_answer, newest_is, one_each_part, same_answer}
pub use Rattle.lsm_model.proofs.Ingests.{ingest_keeps_open, ingest_lawful}
pub use Rattle.lsm_model.proofs.Installs.{all_has, has_all, input_from, input_says, install_answers, install_keeps_open, install_lawful, one_each}
pub use Rattle.lsm_model.proofs.Gathering.{gather_same}
pub use Rattle.lsm_model.proofs.InOrders.{entries_in_order, first_is_le}
pub use Rattle.lsm_model.proofs.Installing.{install_same}
pub use Rattle.lsm_model.proofs.Kept.{kept_says}
pub use Rattle.lsm_model.proofs.LiveLists.{left_job, left_snapshot, one_more, rising_less, rising_more}
pub use Rattle.lsm_model.proofs.Merged.{ascending_sorted, entry_placed, merged_sorted, placed_entry, sorted_ordered}
pub use Rattle.lsm_model.proofs.Merging.{leads_merge, merge_empty, merge_left, merge_right, merged_from, merged_has, merged_ordered}
pub use Rattle.lsm_model.proofs.Moves.{move_answers, move_outputs}
pub use Rattle.lsm_model.proofs.Order.{before_not_first, before_says, first_says, first_total, first_trans, true_or_not}
pub use Rattle.lsm_model.proofs.Plans.{linked_in, plan_opens}
pub use Rattle.lsm_model.proofs.Ranges.{key_le_user}
pub use Rattle.lsm_model.proofs.Runs.{held_agrees, run_law, step_agrees, step_law}
pub use Rattle.lsm_model.proofs.Scanning.{scan_is}
