use Rattle.std.proofs.Common.{◌≡◌}
use Rattle.lsm_cmd_levels.specs.Drawing.{top_of}
use Rattle.lsm_cmd_levels.proofs.drawing.top_of.Given as goal

abbrev pub invariant-loop-level : goal.invariant-loop-level
invariant-loop-level l = l.top ≡ top_of l.shape l.level
