-- What comes into a database that is open: batches that its program may ask for, and nothing else
-- (this project's rule).
use Rattle.std.specs.Prelude.{◌≡◌, ◌⊎◌, ℕ, zero, suc, ◌+◌, ◌++◌, List, [], ◌∷◌, All, length}
use Rattle.lsm_codec.specs.Entries.{Entry}
use Rattle.lsm_shelf.specs.Asked.{Asked}
use Rattle.lsm_shelf.specs.declared.shelf_fault.ShelfFault.{ShelfFault}
use Rattle.lsm_batch.specs.Batches.{entries_from}
use Rattle.lsm_batch.specs.declared.write.Write.{Write}
use Rattle.lsm_state.specs.Held.{Held}
use Rattle.lsm_store.specs.Background.{IsIngestStep}
use Rattle.lsm_store.specs.Compacting.{IsCompactingStep, IsSeated}

-- ---- what came in

-- The last sequence once batches came in, the latest first, where this was the last one before.
abbrev pub last_behind : ℕ → List (List Write) → ℕ
last_behind last [] = last
last_behind last (b ∷ bs) = last_behind last bs + length b

-- Their entries, those of each batch under the next sequences.
abbrev pub entries_behind : ℕ → List (List Write) → List Entry
entries_behind last [] = []
entries_behind last (b ∷ bs) =
    entries_from (suc (last_behind last bs)) b ++ entries_behind last bs

-- In front of what had come in before stand just such batches, one after another.
pub record CameIn (asks : List Write → Type 0) (found : Held) (known : List Entry) : Type 0 where
  pub batches : List (List Write)
  pub asked : All asks batches
  pub history : known ≡ entries_behind found.slots.version.last batches ++ found.history

-- This is said of all that is known in the end.
abbrev pub HasSaid : (asks : List Write → Type 0) → (found : Held) → (List Entry → Type 0) → Type 0
HasSaid asks found Says = (known : List Entry) × ∥ CameIn asks found known ∥₁ × Says known

-- ---- what the lock keeps

-- One step: a worker's, by which nothing comes in, and no snapshot is taken or given up; or the
-- ingest of such a batch, which came in or was refused.
abbrev pub IsStepOf : (Asked → ShelfFault → Type 0) → Type 0 → (List Write → Type 0) → Held → Held
    → Type 0
IsStepOf Refused Honest asks was is =
    IsCompactingStep Honest was is ⊎ ((ws : List Write) × asks ws × IsIngestStep Refused ws was is)

-- So many, one after another, from the state that was put behind the lock.
abbrev pub AreStepsOf : (Asked → ShelfFault → Type 0) → Type 0 → (List Write → Type 0) → ℕ
    → (found h : Held) → Type 0
AreStepsOf Refused Honest asks zero found h = IsSeated found h
AreStepsOf Refused Honest asks (suc n) found h = (mid : Held)
    × AreStepsOf Refused Honest asks n found mid × IsStepOf Refused Honest asks mid h

-- The state came from the one that was found by such steps.
abbrev pub HasComeTo : (Asked → ShelfFault → Type 0) → Type 0 → (List Write → Type 0)
    → (found h : Held) → Type 0
HasComeTo Refused Honest asks found h = (n : ℕ) × AreStepsOf Refused Honest asks n found h
