use Rattle.std.proofs.Common.{◌≡◌, ◌++◌, length, All}
use Rattle.std.specs.List.{flat_map}
use Rattle.lsm_merge.specs.Rows.{IsRising}
use Rattle.lsm_merge.proofs.rows.Rows.of.Given as goal

abbrev pub invariant-rows : goal.invariant-rows
invariant-rows l = record {
  whole : flat_map (λ row. row.now) l.rows.items ++ l.rest ≡ l.ranges;
  rising : All (λ row. IsRising row.now) l.rows.items;
}

abbrev pub decreases-rows : goal.decreases-rows
decreases-rows l = length l.rest
