use Rattle.std.proofs.Common.{ℕ, take}
use Rattle.lsm_codec.specs.Lists.{Has}
use Rattle.lsm_live.proofs.live_result.are_among.Given as goal

abbrev pub invariant-loop-number : goal.invariant-loop-number
invariant-loop-number l = (n : ℕ) → Has (take l.number-index l.numbers) n → Has l.others n
