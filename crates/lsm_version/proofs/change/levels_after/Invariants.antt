use Rattle.std.proofs.Common.{◌≡◌, ◌++◌, drop, map}
use Rattle.lsm_version.specs.Changes.{levels_after}
use Rattle.lsm_version.proofs.change.levels_after.Given as goal

abbrev pub invariant-loop-number : goal.invariant-loop-number
invariant-loop-number g l = map (λ v. v.items) l.after.items ++ levels_after l.deleted l.added l.number (drop l.number (map (λ v. v.items) l.levels)) ≡ levels_after l.deleted l.added 0 (map (λ v. v.items) l.levels)
