use Rattle.std.proofs.Common.{take, map}
use Rattle.lsm_manifest.specs.EditWriting.{pointer_field, AddsFields}
use Rattle.lsm_manifest.proofs.edit_writer.push_pointers.Given as goal

abbrev pub invariant-loop-pointer : goal.invariant-loop-pointer
invariant-loop-pointer l = AddsFields l.fn.out.items (map pointer_field (take l.pointer-index l.pointers)) l.out.items
