use Rattle.std.proofs.Common.{◌≡◌, ◌++◌, drop}
use Rattle.std.specs.List.{flat_map}
use Rattle.lsm_cmd_levels.specs.Lines.{file_line}
use Rattle.lsm_cmd_levels.proofs.lines.push_files.Given as goal

abbrev pub invariant-loop-file : goal.invariant-loop-file
invariant-loop-file l = l.out.items ++ flat_map (file_line l.form l.level) (drop l.file-index l.files) ≡ l.initial.out.items ++ flat_map (file_line l.form l.level) l.files
