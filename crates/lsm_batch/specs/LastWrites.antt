-- Of each key that is written, its last write.
use Rattle.std.specs.Prelude.{◌≡◌, if◌then◌else◌, List, [], ◌∷◌, length, Option, None, Some}
use Rattle.std.specs.Option.{option_or}
use Rattle.std.specs.Str.{bytes_eq}
use Rattle.lsm_codec.specs.Keys.{UserKey}
use Rattle.lsm_batch.specs.Batches.{KeysRise}
use Rattle.lsm_batch.specs.declared.write.Write.{Write}

-- the write, where it is of this key
abbrev pub write_at : UserKey → Write → Option Write
write_at key w = if bytes_eq w.key key then Some w else None

-- what is written of the key last, if anything is
abbrev pub last_write : UserKey → List Write → Option Write
last_write key [] = None
last_write key (w ∷ ws) = option_or (last_write key ws) (write_at key w)

-- The batch has, of each key that is written, the last write alone. Its keys ascend.
pub record KeepsLast (ws batch : List Write) : Type 0 where
  pub rises : KeysRise (length batch) batch
  pub last : (key : UserKey) → last_write key batch ≡ last_write key ws
