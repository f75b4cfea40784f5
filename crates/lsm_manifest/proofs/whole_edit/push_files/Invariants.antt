use Rattle.std.proofs.Common.{◌≡◌, ◌++◌, take, map}
use Rattle.lsm_manifest.specs.WholeEdit.{placed_at}
use Rattle.lsm_manifest.proofs.whole_edit.push_files.Given as goal

abbrev pub invariant-loop-file : goal.invariant-loop-file
invariant-loop-file l = l.added.items ≡ l.fn.added.items ++ map (placed_at l.level) (take l.file-index l.files)
