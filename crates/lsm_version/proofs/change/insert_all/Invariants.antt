use Rattle.std.proofs.Common.{◌≡◌, drop}
use Rattle.std.specs.List.Sorted.{IsSortedBy}
use Rattle.lsm_version.specs.Changes.{placed_all, coming}
use Rattle.lsm_version.specs.Versions.{stands_before}
use Rattle.lsm_version.proofs.change.insert_all.Given as goal

abbrev pub invariant-loop-one : goal.invariant-loop-one
invariant-loop-one g l = record {
  placed : placed_all (coming l.number (drop l.one-index l.added)) l.level.items ≡ placed_all (coming l.number l.added) l.fn.level.items;
  order : IsSortedBy stands_before l.level.items;
}
