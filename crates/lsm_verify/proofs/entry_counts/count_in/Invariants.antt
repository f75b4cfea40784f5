use Rattle.std.proofs.Common.{◌≡◌, take}
use Rattle.lsm_verify.specs.Counts.{counted}
use Rattle.lsm_verify.proofs.entry_counts.count_in.Given as goal

abbrev pub invariant-loop-own : goal.invariant-loop-own
invariant-loop-own l = l.count ≡ counted (take l.own-index l.sequences)
