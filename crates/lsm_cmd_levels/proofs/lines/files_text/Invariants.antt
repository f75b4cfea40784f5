use Rattle.std.proofs.Common.{◌≡◌}
use Rattle.lsm_cmd_levels.specs.Lines.{level_lines, level_texts}
use Rattle.lsm_cmd_levels.specs.Sums.{files_at}
use Rattle.lsm_cmd_levels.proofs.lines.files_text.Given as goal

abbrev pub invariant-loop-level : goal.invariant-loop-level
invariant-loop-level l = l.text.items ≡ level_texts (λ n. level_lines l.form n (files_at l.shape n)) l.level
