-- What the lock of a store keeps while batches come in: since the state was found nothing was done
-- to it but what workers and readers do, and ingests of batches that may come in (this project's
-- rule).
use Rattle.std.specs.Prelude.{◌≡◌, ◌⊎◌, ℕ, zero, suc, ◌++◌, List, All, Option}
use Rattle.lsm_shelf.specs.Asked.{Asked}
use Rattle.lsm_shelf.specs.declared.shelf_fault.ShelfFault.{ShelfFault}
use Rattle.lsm_batch.specs.declared.write.Write.{Write}
use Rattle.lsm_lines.specs.Gathering.{Gathers, IsGathered, Pending}
use Rattle.lsm_lines.specs.LastWrites.{KeepsLast}
use Rattle.lsm_lines.specs.declared.gathered.Gathered.{Gathered}
use Rattle.lsm_state.specs.Held.{Held}
use Rattle.lsm_store.specs.Background.{IsIngestStep, IsKeptByIngest}
use Rattle.lsm_store.specs.Compacting.{IsCompactingStep, IsSeated}
use Rattle.lsm_bulk_load.specs.Coming.{CameIn}
use Rattle.lsm_bulk_load.specs.Marks.{IsEven, Marked, marked_in}

-- ---- the fact

-- A reader learnt the version of the state, whose end of the board alone may have changed.
abbrev pub IsLearnt : Held → Held → Type 0
IsLearnt was is = is ≡ record was { slots = record was.slots { board = is.slots.board } }

-- One step: a worker's, or a reader's, by which nothing comes in; or the ingest of such a batch,
-- which came in or was refused.
abbrev pub IsStepOf : (Asked → ShelfFault → Type 0) → Type 0 → (List Write → Type 0) → Held → Held
    → Type 0
IsStepOf Refused honest may was is = IsCompactingStep honest was is
    ⊎ (IsLearnt was is ⊎ ((b : List Write) × may b × IsIngestStep Refused b was is))

-- The state that was found; or it was put behind the lock.
abbrev pub IsTaken : (found h : Held) → Type 0
IsTaken found h = (h ≡ found) ⊎ IsSeated found h

-- So many steps, one after another, from the state that was found.
abbrev pub AreStepsOf : (Asked → ShelfFault → Type 0) → Type 0 → (List Write → Type 0) → ℕ
    → (found h : Held) → Type 0
AreStepsOf Refused honest may zero found h = IsTaken found h
AreStepsOf Refused honest may (suc n) found h = (mid : Held)
    × AreStepsOf Refused honest may n found mid × IsStepOf Refused honest may mid h

-- The state came from the one that was found by such steps.
abbrev pub HasComeTo : (Asked → ShelfFault → Type 0) → Type 0 → (List Write → Type 0)
    → (found h : Held) → Type 0
HasComeTo Refused honest may found h = (n : ℕ) × AreStepsOf Refused honest may n found h

-- What the lock keeps beside a fact, so that a count of sequences tells whether more came in: as
-- many entries came in as sequences were taken.
abbrev pub IsKeptSince : (Held → Type 0) → Marked → Held → Type 0
IsKeptSince keeps found h = keeps h × IsEven found (marked_in h)

-- ---- batches that may come in

-- Since it was found came in just batches that may.
pub record HasGrown (may : List Write → Type 0) (found now : Marked) : Type 0 where
  pub batches : List (List Write)
  pub came : CameIn found now batches
  pub asked : All may batches

-- Lines that are to come, one behind another, spell writes of which this batch has the last ones;
-- those before them spell the front.
pub record IsOfLines (old : Pending) (batch : List Write) : Type 0 where
  pub front : List Write
  pub ws : List Write
  pub held : List Write
  pub left : Option (List ℕ)
  pub gathers : Gathers old left held (front ++ ws)
  pub last : KeepsLast ws batch

-- What a reader does keeps the fact.
abbrev pub IsKeptByLearning : (Held → Type 0) → Type 0
IsKeptByLearning keeps = (was is : Held) → IsLearnt was is → keeps was → keeps is

-- The ingest of the batch that is gathered next of these lines keeps it.
abbrev pub IsKeptByNext : (Asked → ShelfFault → Type 0) → Pending → (Held → Type 0) → Type 0
IsKeptByNext Refused old keeps =
    (new : Pending) (r : Gathered) → IsGathered old new r → IsKeptByIngest Refused r.batch keeps

-- The ingest of each such batch keeps it.
abbrev pub IsKeptByAll : (Asked → ShelfFault → Type 0) → (List Write → Type 0) → (Held → Type 0)
    → Type 0
IsKeptByAll Refused may keeps = (b : List Write) → may b → IsKeptByIngest Refused b keeps
