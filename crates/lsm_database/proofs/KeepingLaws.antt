-- What the lock of a database keeps.
use Rattle.std.proofs.Common.{◌≡◌, ℕ, zero, suc, ◌+◌, ◌++◌, List, [], ◌∷◌, All, length, sym}
use Rattle.std.proofs.Common.{ap, ◌∙◌, append_assoc, inl, inr}
use Rattle.std.proofs.Math.Logic.{∥∥₁_map}
use Rattle.std.proofs.lemmas.List.Elements.{All-cons, All-nil}
use Rattle.std.specs.Prelude.{Result, Ok, Err, IfErr, IfOk}
use Rattle.lsm_codec.specs.Entries.{Entry}
use Rattle.lsm_model.specs.Plain.{Plain}
use Rattle.lsm_shelf.specs.Asked.{Asked}
use Rattle.lsm_shelf.specs.Told.{Told}
use Rattle.lsm_shelf.specs.declared.shelf_fault.ShelfFault.{ShelfFault}
use Rattle.lsm_batch.specs.Batches.{entries_from}
use Rattle.lsm_batch.specs.declared.write.Write.{Write}
use Rattle.lsm_version.specs.Changes.{changed}
use Rattle.lsm_version.specs.Versions.{Levels}
use Rattle.lsm_state.specs.Held.{Held}
use Rattle.lsm_state.specs.Ingesting.{Ingests}
use Rattle.lsm_state.specs.declared.ingest.Ingested.{Ingested}
use Rattle.lsm_state.specs.declared.state_fault.StateFault.{StateFault}
use Rattle.lsm_store.specs.Background.{BringsIn, IsIngestStep, IsKeptByIngest, KeepsOut}
use Rattle.lsm_store.specs.Compacting.{IsKeptByCompaction, IsSeated}
use Rattle.lsm_database.specs.Keeping.{AreStepsOf, CameIn, HasComeTo, IsStepOf, entries_behind}
use Rattle.lsm_database.specs.Keeping.{last_behind}

-- what an ingest answered is a step
pub step_of : (Refused : Asked → ShelfFault → Type 0) (was is : Held) (ws : List Write)
    (t u : Told) (r : Result Ingested StateFault) → IfOk r (λ i. BringsIn was is ws i t u)
    → IfErr r (λ e. KeepsOut Refused was is ws e t u) → IsIngestStep Refused ws was is
step_of Refused was is ws t u (Ok i) came refused = inl (i, t, u, came)
step_of Refused was is ws t u (Err e) came refused = inr (e, t, u, refused)

module _ (Refused : Asked → ShelfFault → Type 0) (Honest : Type 0)
    (asks : List Write → Type 0) where
  -- ---- it is kept

  pub come_seated : (found h : Held) → IsSeated found h → HasComeTo Refused Honest asks found h
  come_seated found h seated = (zero, seated)

  pub come_compacting : (found : Held)
      → IsKeptByCompaction Honest (HasComeTo Refused Honest asks found)
  come_compacting found was is step come = (suc come.0, (was, come.1, inl step))

  pub come_ingest : (found : Held) (ws : List Write) → asks ws
      → IsKeptByIngest Refused ws (HasComeTo Refused Honest asks found)
  come_ingest found ws asked was is step come =
      (suc come.0, (was, come.1, inr (ws, asked, step)))

  -- ---- what came in by it

  -- such batches came in, and took just the sequences behind those that were taken
  record CameTo (found h : Held) : Type 0 where
    pub batches : List (List Write)
    pub asked : All asks batches
    pub history : h.history
        ≡ entries_behind found.slots.version.last batches ++ found.history
    pub last : h.slots.version.last ≡ last_behind found.slots.version.last batches

  came_same : (found was is : Held) → is.history ≡ was.history
      → is.slots.version.last ≡ was.slots.version.last → CameTo found was → CameTo found is
  came_same found was is history last c = record {
    batches = c.batches;
    asked = c.asked;
    history = history ∙ c.history;
    last = last ∙ c.last;
  }

  none_came : (found h : Held) → IsSeated found h → CameTo found h
  none_came found h seated = record {
    batches = [];
    asked = All-nil asks;
    history = ap (λ (x : Held). x.history) seated.1;
    last = ap (λ (x : Held). x.slots.version.last) seated.1;
  }

  ingested_last : (old new : Held) (ws : List Write) (r : Ingested) (was is : Told)
      → Ingests old new ws r was is
      → new.slots.version.last ≡ old.slots.version.last + length ws
  unfolding changed
  ingested_last old new ws r was is i =
      ap (λ (v : Levels). v.last) i.changes.published.version_is

  one_more : (found was is : Held) (ws : List Write) (r : Ingested) (t u : Told) → asks ws
      → BringsIn was is ws r t u → CameTo found was → CameTo found is
  one_more found was is ws r t u asked b c =
      let old = entries_behind found.slots.version.last c.batches in
      let front = (λ (n : ℕ). entries_from (suc n) ws) in
      let last = was.slots.version.last in
      record {
        batches = ws ∷ c.batches;
        asked = All-cons asks ws c.batches asked c.asked;
        history = b.history ∙ ap (λ (es : List Entry). front last ++ es) c.history
            ∙ sym (append_assoc (front last) old found.history)
            ∙ ap (λ (n : ℕ). (front n ++ old) ++ found.history) c.last;
        last = ingested_last was is ws r t u b.ingests ∙ ap (λ (n : ℕ). n + length ws) c.last;
      }

  came_step : (found was is : Held) → IsStepOf Refused Honest asks was is → CameTo found was
      → CameTo found is
  came_step found was is (inl step) c =
      came_same found was is step.found.history step.found.last c
  came_step found was is (inr (ws, asked, inl b)) c =
      one_more found was is ws b.0 b.1 b.2 asked b.3 c
  came_step found was is (inr (ws, asked, inr k)) c =
      came_same found was is k.3.history (ap (λ (s : Plain). s.last) k.3.event.2) c

  came_steps : (n : ℕ) (found h : Held) → AreStepsOf Refused Honest asks n found h
      → CameTo found h
  came_steps zero found h seated = none_came found h seated
  came_steps (suc n) found h s = came_step found s.0 h s.2 (came_steps n found s.0 s.1)

  came_to : (found h : Held) (known : List Entry) → known ≡ h.history
      → HasComeTo Refused Honest asks found h → CameIn asks found known
  came_to found h known same come =
      let c = came_steps come.0 found h come.1 in
      record { batches = c.batches; asked = c.asked; history = same ∙ c.history }

  -- what is known of a state behind the lock was asked for
  pub came_in : (found h : Held) (known : List Entry) → known ≡ h.history
      → ∥ HasComeTo Refused Honest asks found h ∥₁ → ∥ CameIn asks found known ∥₁
  came_in found h known same kept = ∥∥₁_map kept (came_to found h known same)

-- nothing came in yet
pub none_in : (asks : List Write → Type 0) (found : Held) (known : List Entry)
    → known ≡ found.history → ∥ CameIn asks found known ∥₁
none_in asks found known same =
    ∣ record { batches = []; asked = All-nil asks; history = same } ∣₁
