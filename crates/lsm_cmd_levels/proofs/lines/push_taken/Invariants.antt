use Rattle.std.proofs.Common.{◌≡◌, ◌++◌}
use Rattle.std.specs.List.{flat_map}
use Rattle.lsm_cmd_levels.specs.Lines.{level_texts, taken_word}
use Rattle.lsm_cmd_levels.specs.Sums.{files_at}
use Rattle.lsm_cmd_levels.proofs.lines.push_taken.Given as goal

abbrev pub invariant-loop-level : goal.invariant-loop-level
invariant-loop-level l = l.out.items ≡ l.initial.out.items ++ level_texts (λ n. flat_map (taken_word l.due n) (files_at l.shape n)) l.level
