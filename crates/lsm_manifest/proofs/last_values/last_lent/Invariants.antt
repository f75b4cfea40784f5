use Rattle.std.proofs.Common.{◌≡◌, take}
use Rattle.std.specs.Option.{option_map}
use Rattle.lsm_manifest.specs.Replay.{last_pointer}
use Rattle.lsm_manifest.proofs.last_values.last_lent.Given as goal

abbrev pub invariant-loop-edit : goal.invariant-loop-edit
invariant-loop-edit l = option_map (λ key. key.now) l.found ≡ last_pointer l.level (take l.edit-index l.edits)
