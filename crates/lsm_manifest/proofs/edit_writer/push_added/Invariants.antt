use Rattle.std.proofs.Common.{take, map}
use Rattle.lsm_manifest.specs.EditWriting.{added_field, AddsFields}
use Rattle.lsm_manifest.proofs.edit_writer.push_added.Given as goal

abbrev pub invariant-loop-file : goal.invariant-loop-file
invariant-loop-file l = AddsFields l.fn.out.items (map added_field (take l.file-index l.added)) l.out.items
