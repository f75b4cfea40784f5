-- What contracts see of a session, and what it knows of the database (this project's rule).
use Rattle.std.specs.Prelude.{◌≡◌, ℕ, List}
use Rattle.lsm_codec.specs.Entries.{Entry}
use Rattle.lsm_history.specs.History.{IsLater}
use Rattle.lsm_shelf.specs.Told.{Told}
use Rattle.lsm_slots.specs.Slots.{AreSlots}
use Rattle.lsm_state.specs.Held.{Held}
use Rattle.lsm_store.specs.Readers.{Learnt}

pub record Served : Type 0 where
  -- what its reader has learnt, and what its shelf was told
  pub reader : Learnt
  pub shelf : Told
  -- all that it knows to have come in, the latest first: what its last write left, or what it saw
  -- of the database after that
  pub known : List Entry
  -- its snapshots, those that it took and did not give up: numbers and sequences
  pub taken : List (ℕ × ℕ)

-- What is known then is all that has come in in this state, which has all that was known before.
-- Its slots are a board's, so the current version stands in one.
pub record IsToldBy (h : Held) (knew knows : List Entry) : Type 0 where
  pub later : IsLater h.history knew
  pub known : knows ≡ h.history
  pub slots : AreSlots h.slots

-- The lock gave this state, where its fact held. It has all that was known before, and all that had
-- come in in it is known then.
pub record IsLent (keeps : Held → Type 0) (h : Held) (knew knows : List Entry) : Type 0 where
  pub kept : ∥ keeps h ∥₁
  pub told : IsToldBy h knew knows
