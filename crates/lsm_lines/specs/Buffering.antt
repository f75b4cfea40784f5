-- What a write buffer takes.
use Rattle.std.specs.Prelude.{◌≡◌, ⊤, List, [], ◌∷◌, ◌++◌}
use Rattle.lsm_batch.specs.Batches.{IsLarge, IsTooLarge}
use Rattle.lsm_batch.specs.declared.write.Write.{Write}
use Rattle.lsm_lines.specs.declared.write_buffer.PutFault.{PutFault}
use Rattle.lsm_lines.specs.declared.write_buffer.PutFault.TheVariants.{Full, Large, OutOfMemory}

-- Why the write is not put behind these: with it they would pass a limit of a batch, and it is
-- handed back; or no batch may have it.
abbrev pub IsPutRefusal : List Write → Write → PutFault → Type 0
IsPutRefusal ws w (Full back) = (back ≡ w) × (IsLarge w → ⊥) × IsTooLarge (ws ++ w ∷ [])
IsPutRefusal ws w Large = IsLarge w
IsPutRefusal ws w OutOfMemory = ⊤
