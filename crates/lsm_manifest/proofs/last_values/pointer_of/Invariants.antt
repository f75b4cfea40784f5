use Rattle.std.proofs.Common.{◌≡◌, take}
use Rattle.std.specs.Option.{option_map}
use Rattle.lsm_manifest.specs.Replay.{pointer_in}
use Rattle.lsm_manifest.proofs.last_values.pointer_of.Given as goal

abbrev pub invariant-loop-pointer : goal.invariant-loop-pointer
invariant-loop-pointer l = option_map (λ key. key.now) l.found ≡ pointer_in l.level (take l.pointer-index l.pointers)
