use Rattle.std.proofs.Common.{◌≡◌, ◌++◌, drop}
use Rattle.lsm_cmd_levels.specs.Drawing.{bars_from}
use Rattle.lsm_cmd_levels.proofs.drawing.push_bars.Given as goal

abbrev pub invariant-loop-index : goal.invariant-loop-index
invariant-loop-index l = l.out.items ++ bars_from l.sheet.form l.sheet.shape.now l.sheet.due l.level l.index (drop l.index l.files) ≡ l.initial.out.items ++ bars_from l.sheet.form l.sheet.shape.now l.sheet.due l.level 0 l.files
