use Rattle.lsm_model.proofs.Merged.{merge_is, merged_sorted, sorted_ordered}
use Rattle.lsm_model.proofs.Merging.{merged_alike, merged_from, merged_has}
use Rattle.lsm_model.proofs.laws.merges_are_in_order.Goals as goal

pub returns : goal.returns
returns c = record { lists = sorted_ordered; order = merged_sorted; alike = merged_alike; from = merged_from; to = merged_has; whole = merge_is }
