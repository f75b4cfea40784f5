use Rattle.std.proofs.Common.{take}
use Rattle.lsm_cmd_levels.specs.Reaching.{IsGrown, span_in}
use Rattle.lsm_cmd_levels.proofs.reaching.grow.Given as goal

-- grown by the files so far
abbrev pub invariant-loop-file : goal.invariant-loop-file
invariant-loop-file l = IsGrown l.files (take l.file-index l.files) (span_in l.fn.from) (span_in l.span)
