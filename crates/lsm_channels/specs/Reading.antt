-- What a read answers, and why it is refused (this project's rule).
use Rattle.std.specs.Prelude.{◌≡◌, ◌⊎◌, ℕ, ◌<◌, List, length, Option, map}
use Rattle.lsm_codec.specs.Entries.{Entry, answer}
use Rattle.lsm_frames.specs.Answers.{Done, Found, IsDone, answer_text}
use Rattle.lsm_frames.specs.declared.length.TheConstants.{MOST_ANSWER}
use Rattle.lsm_frames.specs.declared.when.When.{When}
use Rattle.lsm_state.specs.Held.{Held}
use Rattle.lsm_state.specs.declared.state_fault.StateFault.{StateFault}
use Rattle.lsm_state.specs.declared.state_fault.StateFault.TheVariants.{OutOfMemory, Read, TooLarge}
use Rattle.lsm_store.specs.Readers.{Learnt}
use Rattle.lsm_table.specs.ReadFault.{IsMemoryOrShelf}
use Rattle.lsm_table.specs.declared.read_fault.ReadFault.{ReadFault}
use Rattle.lsm_channels.specs.Answered.{done_frame}
use Rattle.lsm_channels.specs.Pinning.{IsUnpinned}
use Rattle.lsm_channels.specs.Seen.{IsNotLive, Sees}
use Rattle.lsm_channels.specs.Served.{IsLent}

-- of each key its newest value at the sequence, or none, in the order of the keys
abbrev pub values_at : List Entry → ℕ → List (List ℕ) → List (Option (List ℕ))
values_at history seq keys = map (λ k. answer history k seq) keys

-- The answer has the value of each key, in all that had come in when the reader learnt it, at one
-- sequence.
pub record IsRead (Honest : Type 0) (keeps : Held
    → Type 0) (when : When) (keys : List (List ℕ)) (taken : List (ℕ
    × ℕ)) (before after : Learnt) (knew knows : List Entry) (frame : List ℕ) : Type 0 where
  pub seq : ℕ
  pub sees : Sees keeps when taken before after knew knows seq
  pub values : Honest → frame ≡ done_frame (Found (values_at knows seq keys))

-- ---- refusals

-- Why there is no view: in the state that the lock gave, which has all that the channel knew the
-- snapshot is not live, or the version is not pinned.
abbrev pub IsUnseen : (Held → Type 0) → When → List (ℕ × ℕ) → (knew knows : List Entry) → StateFault
    → Type 0
IsUnseen keeps when taken knew knows e =
    (h : Held) × IsLent keeps h knew knows × (IsNotLive h taken when e ⊎ IsUnpinned h e)

-- Why an answer does not grow: it would be too long; or memory ran out.
abbrev pub IsAnswerFault : StateFault → Type 0
IsAnswerFault e = (e ≡ TooLarge) ⊎ (e ≡ OutOfMemory)

-- Why what is seen is not answered: that; or a table could not be read, over an honest shelf only
-- since the shelf refused or memory ran out.
abbrev pub IsUnread : Type 0 → StateFault → Type 0
IsUnread Honest e = IsAnswerFault e
    ⊎ ((fault : ReadFault) × (e ≡ Read fault) × (Honest → IsMemoryOrShelf fault))

-- the answer would pass the length of one
abbrev pub IsTooLong : Done → Type 0
IsTooLong done = MOST_ANSWER < length (answer_text (IsDone done))

-- Why a read is refused: nothing is seen; or what is seen is not answered, as `TooLarge` over an
-- honest shelf only where the answer would be too long.
abbrev pub IsReadFault : Type 0 → (Held → Type 0) → When → List (List ℕ) → List (ℕ × ℕ)
    → (before after : Learnt)
    → (knew knows : List Entry) → StateFault → Type 0
IsReadFault Honest keeps when keys taken before after knew knows e =
    IsUnseen keeps when taken knew knows e
    ⊎ ((seq : ℕ) × Sees keeps when taken before after knew knows seq × IsUnread Honest e
    × (Honest → e ≡ TooLarge → IsTooLong (Found (values_at knows seq keys))))
