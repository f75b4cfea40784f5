use Rattle.std.proofs.Common.{◌≡◌, sum, take}
use Rattle.lsm_cmd_import.proofs.copying.sum_of.Given as goal

-- the sum so far
abbrev pub invariant-loop-count : goal.invariant-loop-count
invariant-loop-count l = l.sum ≡ sum (take l.count-index l.counts)
