use Rattle.std.proofs.Common.{take, map}
use Rattle.lsm_manifest.specs.EditWriting.{deleted_field, AddsFields}
use Rattle.lsm_manifest.proofs.edit_writer.push_deleted.Given as goal

abbrev pub invariant-loop-file : goal.invariant-loop-file
invariant-loop-file l = AddsFields l.fn.out.items (map deleted_field (take l.file-index l.deleted)) l.out.items
