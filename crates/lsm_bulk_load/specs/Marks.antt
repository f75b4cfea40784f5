-- How far a store is (this project's rule).
use Rattle.std.specs.Prelude.{◌≡◌, ℕ, ◌+◌, List, length}
use Rattle.lsm_codec.specs.Entries.{Entry}
use Rattle.lsm_history.specs.History.{IsLater}
use Rattle.lsm_state.specs.Held.{Held}
use Rattle.lsm_state.specs.declared.ingest.Ingested.{Ingested}

-- all that came in, the latest batch first, and the last sequence
pub record Marked : Type 0 where
  pub history : List Entry
  pub last : ℕ

abbrev pub marked_in : Held → Marked
marked_in h = record { history = h.history; last = h.slots.version.last }

-- Since it was found, as many entries came in as sequences were taken.
abbrev pub IsEven : Marked → Marked → Type 0
IsEven found now = length now.history + found.last ≡ length found.history + now.last

-- Both of these came before: the batch's sequences go on from the first one, and end with the last
-- one here.
pub record IsBehind (found before : Marked) (came : Ingested) (after : List Entry) (now : Marked)
    : Type 0 where
  pub first : came.first ≡ before.last + 1
  pub last : now.last ≡ came.last
  pub later : IsLater now.history before.history
  pub later_too : IsLater now.history after
  pub even_before : IsEven found before
  pub even : IsEven found now
