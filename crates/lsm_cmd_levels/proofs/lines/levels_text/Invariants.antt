use Rattle.std.proofs.Common.{◌≡◌}
use Rattle.lsm_cmd_levels.specs.Lines.{level_line, level_texts}
use Rattle.lsm_cmd_levels.specs.Sums.{files_at}
use Rattle.lsm_cmd_levels.proofs.lines.levels_text.Given as goal

abbrev pub invariant-loop-level : goal.invariant-loop-level
invariant-loop-level l = l.text.items ≡ level_texts (λ n. level_line n (files_at l.shape n)) l.level
