use Rattle.std.proofs.Common.{◌≡◌, ◌++◌, take}
use Rattle.std.specs.List.{flat_map}
use Rattle.lsm_text.specs.ManifestPrinting.{deleted_line}
use Rattle.lsm_text.proofs.edit_spelling.push_all_deleted.Given as goal

abbrev pub invariant-loop-file : goal.invariant-loop-file
invariant-loop-file l = l.out.items ≡ l.initial.out.items ++ flat_map deleted_line (take l.file-index l.deleted)
