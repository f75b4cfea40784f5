use Rattle.std.proofs.Common.{◌-◌, length}
use Rattle.lsm_batch.specs.Limits.{most_entries}
use Rattle.lsm_lines.specs.Filling.{Fills}
use Rattle.lsm_lines.proofs.filling.fill.Given as goal

abbrev pub invariant-lines : goal.invariant-lines
invariant-lines g l = Fills l.fn.form l.fn.last l.fn.lines.left l.lines.left l.fn.buffer l.buffer

abbrev pub decreases-lines : goal.decreases-lines
decreases-lines g l = most_entries - length l.buffer
