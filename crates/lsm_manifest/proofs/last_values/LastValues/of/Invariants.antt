use Rattle.std.proofs.Common.{take}
use Rattle.lsm_manifest.specs.LastValues.{AreLast}
use Rattle.lsm_manifest.proofs.last_values.LastValues.of.Given as goal

abbrev pub invariant-loop-edit : goal.invariant-loop-edit
invariant-loop-edit l = AreLast (take l.edit-index l.edits) l.numbers
