use Rattle.std.proofs.Common.{◌≡◌, map, take}
use Rattle.lsm_verify.specs.Counts.{counted}
use Rattle.lsm_verify.proofs.entry_counts.counts_of.Given as goal

abbrev pub invariant-loop-level : goal.invariant-loop-level
invariant-loop-level l = l.counts.items ≡ map counted (map (λ ss. ss.items) (take l.level-index l.sequences))
