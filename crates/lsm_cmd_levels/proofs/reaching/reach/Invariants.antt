use Rattle.lsm_cmd_levels.specs.Reaching.{span_in}
use Rattle.lsm_cmd_levels.proofs.SpanLaws.{IsReaching}
use Rattle.lsm_cmd_levels.proofs.reaching.reach.Given as goal

-- on the way to what is reached
abbrev pub invariant-loop-turn : goal.invariant-loop-turn
invariant-loop-turn l = IsReaching l.files (span_in l.fn.from) (span_in l.span)
