use Rattle.std.proofs.Common.{length}
use Rattle.lsm_block.specs.Held.{rest_of}
use Rattle.lsm_table.specs.Judging.{Judged}
use Rattle.lsm_table.proofs.check.judge_data.Given as goal

abbrev pub invariant-loop-here : goal.invariant-loop-here
invariant-loop-here l = Judged l.body l.index l.end l.before l.here

abbrev pub decreases-loop-here : goal.decreases-loop-here
decreases-loop-here l = length (rest_of l.index l.here)
