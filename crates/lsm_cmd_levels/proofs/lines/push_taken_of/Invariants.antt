use Rattle.std.proofs.Common.{◌≡◌, ◌++◌, drop}
use Rattle.std.specs.List.{flat_map}
use Rattle.lsm_cmd_levels.specs.Lines.{taken_word}
use Rattle.lsm_cmd_levels.proofs.lines.push_taken_of.Given as goal

abbrev pub invariant-loop-file : goal.invariant-loop-file
invariant-loop-file l = l.out.items ++ flat_map (taken_word l.due l.level) (drop l.file-index l.files) ≡ l.initial.out.items ++ flat_map (taken_word l.due l.level) l.files
