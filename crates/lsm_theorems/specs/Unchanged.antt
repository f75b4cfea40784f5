-- What a call leaves that changes no answer (this project's rule).
use Rattle.std.specs.Prelude.{◌≡◌, ℕ, List, Option}
use Rattle.lsm_codec.specs.Entries.{answer}
use Rattle.lsm_codec.specs.Keys.{UserKey}
use Rattle.lsm_model.specs.Files.{all_entries}
use Rattle.lsm_model.specs.Plain.{IsReadable}
use Rattle.lsm_version.specs.Versions.{files}
use Rattle.lsm_state.specs.Held.{Held, plain}

-- what a read of the current version gives
abbrev pub read_of : Held → UserKey → ℕ → Option (List ℕ)
read_of h k seq = answer (all_entries (files h.slots.version)) k seq

-- Nothing came in, the last sequence and the live snapshots are the same, and each promised read,
-- at the last sequence or a live snapshot's, gives what it gave.
pub record IsUnchanged (Honest : Type 0) (was is : Held) : Type 0 where
  pub history : is.history ≡ was.history
  pub last : is.slots.version.last ≡ was.slots.version.last
  pub snapshots : is.snapshots.taken ≡ was.snapshots.taken
  pub reads : Honest → (k : UserKey) (seq : ℕ) → IsReadable (plain was) seq
      → read_of is k seq ≡ read_of was k seq
