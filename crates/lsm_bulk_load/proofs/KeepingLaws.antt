-- What the lock keeps while lines come in.
use Rattle.std.proofs.Common.{◌≡◌, ℕ, suc, List, [], ◌∷◌, ◌++◌, Option, refl, ap, subst, sym, inl, inr}
use Rattle.std.specs.Prelude.{zero}
use Rattle.std.proofs.lemmas.List.Elements.{All-nil, All-push}
use Rattle.lsm_model.specs.Plain.{Plain}
use Rattle.lsm_shelf.specs.Asked.{Asked}
use Rattle.lsm_shelf.specs.Told.{Told}
use Rattle.lsm_shelf.specs.declared.shelf_fault.ShelfFault.{ShelfFault}
use Rattle.lsm_batch.specs.declared.write.Write.{Write}
use Rattle.lsm_lines.specs.Gathering.{EndsBy, Gathers, IsGathered, Pending, StopsBy}
use Rattle.lsm_lines.specs.declared.gathered.Gathered.{Gathered}
use Rattle.lsm_lines.specs.declared.gathered.BatchEnd.{BatchEnd}
use Rattle.lsm_lines.specs.declared.gathered.BatchEnd.TheVariants.{Full, End, Stopped}
use Rattle.lsm_lines.specs.declared.write_line_fault.WriteLineFault.{WriteLineFault}
use Rattle.lsm_lines.specs.declared.write_line_fault.WriteLineFault.TheVariants as lines
use Rattle.lsm_state.specs.Held.{Held}
use Rattle.lsm_state.specs.declared.ingest.Ingested.{Ingested}
use Rattle.lsm_store.specs.Background.{BringsIn, IsIngestStep}
use Rattle.lsm_store.specs.Compacting.{IsKeptByCompaction}
use Rattle.lsm_bulk_load.specs.Coming.{ComesNext}
use Rattle.lsm_bulk_load.specs.Keeping.{AreStepsOf, HasComeTo, HasGrown, IsKeptByAll, IsKeptByLearning, IsKeptByNext, IsOfLines, IsStepOf, IsTaken}
use Rattle.lsm_bulk_load.specs.Loading.{IsToldOfBatches, IsToldOfNext, Loads}
use Rattle.lsm_bulk_load.specs.Marks.{Marked, marked_in}
use Rattle.lsm_bulk_load.specs.declared.progress.Progress.{Progress}
use Rattle.lsm_bulk_load.proofs.LoadLaws.{SameForm, came_more, came_none, gathers_then}
use Rattle.lsm_bulk_load.proofs.MarkLaws.{ingested_last, same_marked}

-- ---- batches of lines

gathers_by : (old : Pending) (ws : List Write) (fault : WriteLineFault) → StopsBy old ws fault → (left : Option (List ℕ)) × (held : List Write) × Gathers old left held ws
gathers_by old ws (lines.BadLine place) s = (s.0, [], s.1)
gathers_by old ws lines.LongLine s = (s.0, [], s.1)
gathers_by old ws lines.LargeWrite s = (s.0, [], s.1)
gathers_by old ws lines.NoNewline s = (s.0, [], s.1)
gathers_by old ws lines.Read s = (s.0, [], s.1)
gathers_by old ws lines.OutOfMemory s = s

gathers_of : (old new : Pending) (ws : List Write) (end : BatchEnd) → EndsBy old new ws end → (left : Option (List ℕ)) × (held : List Write) × Gathers old left held ws
gathers_of old new ws Full e = (new.left, new.held, e.0)
gathers_of old new ws End e = (e.0, [], e.1)
gathers_of old new ws (Stopped fault) e = gathers_by old ws fault e

-- the batch that is gathered behind the lines that are in
pub next_of_lines : (old mid new : Pending) (found now : Marked) (p : Progress) (r : Gathered) → SameForm mid old → Loads old mid.left mid.held found now p → IsGathered mid new r → IsOfLines old r.batch
next_of_lines old mid new found now p r form l g =
    let by = gathers_of mid new g.ws r.end g.ends in
    record {
      front = l.ws;
      ws = g.ws;
      held = by.1;
      left = by.0;
      gathers = gathers_then old mid by.0 by.1 l.ws g.ws form l.gathers by.2;
      last = g.last;
    }

pub kept_next : (Refused : Asked → ShelfFault → Type 0) (keeps : Held → Type 0) (old mid : Pending) (found now : Marked) (p : Progress) → IsKeptByAll Refused (IsOfLines old) keeps → SameForm mid old
    → Loads old mid.left mid.held found now p → IsKeptByNext Refused mid keeps
kept_next Refused keeps old mid found now p asked form l new r g = asked r.batch (next_of_lines old mid new found now p r form l g)

-- ---- what the shelf of batches was told

pub told_none : (Refused : Asked → ShelfFault → Type 0) (keeps : Held → Type 0) (may : List Write → Type 0) (t : Told) → IsToldOfBatches Refused keeps may t t
told_none Refused keeps may t = (zero, refl)

-- what is told of the next batch stands behind what was told before
pub told_next : (Refused : Asked → ShelfFault → Type 0) (keeps : Held → Type 0) (old mid : Pending) (found now : Marked) (p : Progress) (t u v : Told) → SameForm mid old
    → Loads old mid.left mid.held found now p → IsToldOfBatches Refused keeps (IsOfLines old) t u → IsToldOfNext Refused keeps mid u v → IsToldOfBatches Refused keeps (IsOfLines old) t v
told_next Refused keeps old mid found now p t u v form l told (inl same) = subst (λ (w : Told). IsToldOfBatches Refused keeps (IsOfLines old) t w) (sym same) told
told_next Refused keeps old mid found now p t u v form l told (inr next) =
    (suc told.0, (u, told.1, (next.1.batch, next_of_lines old mid next.0 found now p next.1 form l next.2, next.3)))

-- ---- the fact of a load

pub come_taken : (Refused : Asked → ShelfFault → Type 0) (honest : Type 0) (may : List Write → Type 0) (found h : Held) → IsTaken found h → HasComeTo Refused honest may found h
come_taken Refused honest may found h taken = (zero, taken)

pub come_compacting : (Refused : Asked → ShelfFault → Type 0) (honest : Type 0) (may : List Write → Type 0) (found : Held) → IsKeptByCompaction honest (HasComeTo Refused honest may found)
come_compacting Refused honest may found was is step come = (suc come.0, (was, come.1, inl step))

pub come_ingests : (Refused : Asked → ShelfFault → Type 0) (honest : Type 0) (may : List Write → Type 0) (found : Held) → IsKeptByAll Refused may (HasComeTo Refused honest may found)
come_ingests Refused honest may found b asked was is step come = (suc come.0, (was, come.1, inr (inr (b, asked, step))))

pub come_learning : (Refused : Asked → ShelfFault → Type 0) (honest : Type 0) (may : List Write → Type 0) (found : Held) → IsKeptByLearning (HasComeTo Refused honest may found)
come_learning Refused honest may found was is step come = (suc come.0, (was, come.1, inr (inl step)))

-- ---- what came in

grown_same : (may : List Write → Type 0) (found was now : Marked) → now ≡ was → HasGrown may found was → HasGrown may found now
grown_same may found was now same g = subst (λ (m : Marked). HasGrown may found m) (sym same) g

grown_none : (may : List Write → Type 0) (found : Marked) → HasGrown may found found
grown_none may found = record { batches = []; came = came_none found; asked = All-nil may }

grown_more : (may : List Write → Type 0) (found was now : Marked) (b : List Write) → HasGrown may found was → may b → ComesNext b was now → HasGrown may found now
grown_more may found was now b g asked comes = record {
  batches = g.batches ++ b ∷ [];
  came = came_more found was now g.batches b g.came comes;
  asked = All-push may g.batches b g.asked asked;
}

taken_mark : (found h : Held) → IsTaken found h → marked_in h ≡ marked_in found
taken_mark found h (inl same) = ap marked_in same
taken_mark found h (inr seated) = ap marked_in seated.1

comes_next : (was is : Held) (b : List Write) (r : Ingested) (t u : Told) → BringsIn was is b r t u → ComesNext b (marked_in was) (marked_in is)
comes_next was is b r t u i = record { history = i.history; last = ingested_last was is b r t u i.ingests }

grown_ingest : (Refused : Asked → ShelfFault → Type 0) (may : List Write → Type 0) (found : Marked) (was is : Held) (b : List Write) → may b → IsIngestStep Refused b was is → HasGrown may found (marked_in was)
    → HasGrown may found (marked_in is)
grown_ingest Refused may found was is b asked (inl i) g = grown_more may found (marked_in was) (marked_in is) b g asked (comes_next was is b i.0 i.1 i.2 i.3)
grown_ingest Refused may found was is b asked (inr k) g =
    grown_same may found (marked_in was) (marked_in is) (same_marked (marked_in is) (marked_in was) k.3.history (ap (λ (s : Plain). s.last) k.3.event.2)) g

grown_step : (Refused : Asked → ShelfFault → Type 0) (honest : Type 0) (may : List Write → Type 0) (found : Marked) (was is : Held) → IsStepOf Refused honest may was is → HasGrown may found (marked_in was)
    → HasGrown may found (marked_in is)
grown_step Refused honest may found was is (inl step) g = grown_same may found (marked_in was) (marked_in is) (same_marked (marked_in is) (marked_in was) step.found.history step.found.last) g
grown_step Refused honest may found was is (inr (inl learnt)) g = grown_same may found (marked_in was) (marked_in is) (ap marked_in learnt) g
grown_step Refused honest may found was is (inr (inr b)) g = grown_ingest Refused may found was is b.0 b.1 b.2 g

grown_steps : (Refused : Asked → ShelfFault → Type 0) (honest : Type 0) (may : List Write → Type 0) (n : ℕ) (found h : Held) → AreStepsOf Refused honest may n found h → HasGrown may (marked_in found) (marked_in h)
grown_steps Refused honest may zero found h taken = grown_same may (marked_in found) (marked_in found) (marked_in h) (taken_mark found h taken) (grown_none may (marked_in found))
grown_steps Refused honest may (suc n) found h s = grown_step Refused honest may (marked_in found) s.0 h s.2 (grown_steps Refused honest may n found s.0 s.1)

pub grown : (Refused : Asked → ShelfFault → Type 0) (honest : Type 0) (may : List Write → Type 0) (found h : Held) → HasComeTo Refused honest may found h → HasGrown may (marked_in found) (marked_in h)
grown Refused honest may found h come = grown_steps Refused honest may come.0 found h come.1
