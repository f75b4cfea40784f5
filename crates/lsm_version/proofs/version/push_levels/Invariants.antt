use Rattle.std.proofs.Common.{◌≡◌, ◌++◌, ℕ, List, map, drop}
use Rattle.lsm_version.proofs.Pushing.{numbers_from}
use Rattle.lsm_version.proofs.version.push_levels.Given as goal

abbrev pub invariant-loop-level : goal.invariant-loop-level
invariant-loop-level g l = record {
  whole : l.numbers.items ++ numbers_from l.level-index (drop l.level-index (map (λ v. v.items) l.levels)) ≡ l.initial.numbers.items ++ numbers_from 0 (map (λ v. v.items) l.levels);
  front : (more : List ℕ) × (l.numbers.items ≡ l.initial.numbers.items ++ more);
}
