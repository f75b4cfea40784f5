use Rattle.std.proofs.Common.{◌≡◌, ◌++◌}
use Rattle.lsm_cmd_levels.specs.Drawing.{level_picture}
use Rattle.lsm_cmd_levels.specs.Lines.{level_texts}
use Rattle.lsm_cmd_levels.specs.Sums.{files_at}
use Rattle.lsm_cmd_levels.proofs.drawing.push_levels.Given as goal

abbrev pub invariant-loop-level : goal.invariant-loop-level
invariant-loop-level l = l.out.items ≡ l.initial.out.items ++ level_texts (λ n. level_picture l.sheet.form l.sheet.shape.now l.sheet.due n (files_at l.sheet.shape.now n)) l.level
