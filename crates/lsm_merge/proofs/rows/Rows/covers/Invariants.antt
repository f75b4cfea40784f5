use Rattle.std.proofs.Common.{◌≡◌, false, take}
use Rattle.std.specs.List.{list_any}
use Rattle.lsm_model.specs.Kept.{covers}
use Rattle.lsm_merge.proofs.rows.Rows.covers.Given as goal

abbrev pub invariant-loop-row : goal.invariant-loop-row
invariant-loop-row l = list_any (λ row. covers row.now l.user) (take l.row-index l.row-items) ≡ false
