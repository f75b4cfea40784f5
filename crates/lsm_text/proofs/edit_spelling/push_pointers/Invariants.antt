use Rattle.std.proofs.Common.{◌≡◌, ◌++◌, take}
use Rattle.std.specs.List.{flat_map}
use Rattle.lsm_text.specs.ManifestPrinting.{pointer_line}
use Rattle.lsm_text.proofs.edit_spelling.push_pointers.Given as goal

abbrev pub invariant-loop-pointer : goal.invariant-loop-pointer
invariant-loop-pointer l = l.out.items ≡ l.initial.out.items ++ flat_map pointer_line (take l.pointer-index l.pointers)
