use Rattle.std.proofs.Common.{◌≡◌, take, map}
use Rattle.lsm_verify.specs.Chosen.{chosen}
use Rattle.lsm_verify.proofs.ages.choose.Given as goal

abbrev pub invariant-loop-level : goal.invariant-loop-level
invariant-loop-level g l = map (λ v. v.items) l.chosen.items ≡ chosen l.numbers (map (λ v. v.items) (take l.level-index l.levels))
