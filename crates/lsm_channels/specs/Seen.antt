-- What a request sees of the database (this project's rule).
use Rattle.std.specs.Prelude.{◌≡◌, ⊤, ◌⊎◌, ℕ, ◌==◌, Bool, false, not, ◌&&◌, List, Option, None}
use Rattle.std.specs.Prelude.{Some}
use Rattle.std.specs.List.{list_any}
use Rattle.lsm_codec.specs.Entries.{Entry}
use Rattle.lsm_codec.specs.Lists.{Has}
use Rattle.lsm_frames.specs.declared.when.When.{When}
use Rattle.lsm_frames.specs.declared.when.When.TheVariants.{Now, Snapshot}
use Rattle.lsm_history.specs.History.{IsLater}
use Rattle.lsm_slots.specs.Slots.{current_id}
use Rattle.lsm_slots.specs.Snapshots.{HasId}
use Rattle.lsm_state.specs.Held.{Held}
use Rattle.lsm_state.specs.Reading.{IsSequence}
use Rattle.lsm_state.specs.declared.state_fault.StateFault.{StateFault}
use Rattle.lsm_state.specs.declared.state_fault.StateFault.TheVariants.{UnknownSnapshot}
use Rattle.lsm_store.specs.Promised.{snapshot_sequences}
use Rattle.lsm_store.specs.Readers.{Learnt}
use Rattle.lsm_channels.specs.Served.{IsLent}

-- the snapshot that is asked for
abbrev pub snapshot_in : When → Option ℕ
snapshot_in Now = None
snapshot_in (Snapshot number) = Some number

-- this snapshot has the number, and another sequence
abbrev pub is_other : (number sequence : ℕ) → ℕ × ℕ → Bool
is_other number sequence p = (p.0 == number) && not (p.1 == sequence)

-- None that the channel took, and did not give up, has the number and another sequence: this is the
-- one that it was told.
abbrev pub IsGiven : List (ℕ × ℕ) → (number sequence : ℕ) → Type 0
IsGiven taken number sequence = list_any (is_other number sequence) taken ≡ false

-- the same of the snapshot that is asked for
abbrev pub IsAsGiven : List (ℕ × ℕ) → When → ℕ → Type 0
IsAsGiven taken Now sequence = ⊤
IsAsGiven taken (Snapshot number) sequence = IsGiven taken number sequence

-- No snapshot of this number is live; or it has another sequence than the one that the channel was
-- told.
abbrev pub IsNotLive : Held → List (ℕ × ℕ) → When → StateFault → Type 0
IsNotLive h taken Now e = ⊥
IsNotLive h taken (Snapshot number) e = (e ≡ UnknownSnapshot number)
    × ((HasId h.snapshots.taken number → ⊥)
    ⊎ ((seq : ℕ) × Has h.snapshots.taken (number, seq) × (IsGiven taken number seq → ⊥)))

-- The reader has learnt the version of this state, all that had come in, and which snapshots were
-- live. It goes on from what it knew.
pub record Learns (h : Held) (before after : Learnt) : Type 0 where
  pub id : after.id ≡ current_id h.slots
  pub version : after.version ≡ h.slots.version
  pub history : after.history ≡ h.history
  pub snapshots : after.snapshots ≡ snapshot_sequences h
  pub later : IsLater after.history before.history

-- The reader has learnt a state that the lock gave, which has all that the channel knew, and this
-- is the sequence of the read there: the last one, or the snapshot's, which is the one that the
-- channel was told.
pub record Sees (keeps : Held → Type 0) (when : When) (taken : List (ℕ
    × ℕ)) (before after : Learnt) (knew knows : List Entry) (seq : ℕ) : Type 0 where
  pub state : Held
  pub learnt : Learns state before after
  pub lent : IsLent keeps state knew knows
  pub sequence : IsSequence state (snapshot_in when) seq
  pub given : IsAsGiven taken when seq
