-- What proofs above may cite: which calls of a state changed what lies on the shelf, as the shelf's value noted them, the last first.
use Rattle.std.proofs.Common.{◌≡◌, ℕ, suc, ◌+◌, List, [], ◌∷◌, sym, ◌∙◌, ap, inl, inr}
use Rattle.std.specs.Prelude.{◌⊎◌}
use Rattle.lsm_shelf.specs.Asked.{Asked, Put, Remove, StartManifest}
use Rattle.lsm_shelf.specs.Told.{Told}
use Rattle.lsm_shelf.specs.declared.shelf_fault.ShelfFault.{ShelfFault}
use Rattle.lsm_version.specs.Versions.{Levels}
use Rattle.lsm_batch.specs.declared.write.Write.{Write}
use Rattle.lsm_merge.specs.Outputs.{going}
use Rattle.lsm_merge.specs.Work.{Done}
use Rattle.lsm_journal.specs.HeldManifest.{HeldManifest}
use Rattle.lsm_journal.specs.Difference.{changed_by}
use Rattle.lsm_journal.specs.Sending.{asked_by}
use Rattle.lsm_journal.specs.Writing.{record_of, version_edit}
use Rattle.lsm_journal.specs.declared.open_fault.OpenFault.{OpenFault}
use Rattle.lsm_journal.specs.declared.open_fault.OpenFault.TheVariants as opening
use Rattle.lsm_journal.proofs.CallerLemmas.{sent_made}
pub use Rattle.lsm_journal.proofs.CallerLemmas.{create_refused_made, created_made, find_refused_made, found_made}
use Rattle.lsm_state.specs.Asked.{changes_by}
use Rattle.lsm_state.specs.Collecting.{AreCollected, IsCollectRefusal, IsKeptNumber, outside, removals_of}
use Rattle.lsm_state.specs.Held.{Held}
use Rattle.lsm_state.specs.Ingesting.{FailsToChange, FailsToPut, Ingests, IsIngestRefusal, IsPutFault, coming_in, last_of, table_bytes_of}
use Rattle.lsm_state.specs.Installing.{Installed}
use Rattle.lsm_state.specs.Opening.{IsBegun, IsOpenRefusal, IsStartRefusal}
use Rattle.lsm_state.specs.declared.ingest.Ingested.{Ingested}
use Rattle.lsm_state.specs.declared.state_fault.StateFault.{StateFault}
use Rattle.lsm_state.specs.declared.state_fault.StateFault.TheVariants as state
use Rattle.lsm_state.proofs.AskedLaws.{outside_free}
use Rattle.lsm_state.proofs.Removing.{removals-push, stopped_next}
use Rattle.lsm_journal.specs.declared.manifest_limit.ManifestLimit.{ManifestLimit}

-- ---- a database that is opened

-- its new manifest was started, and nothing else was made
pub begun_made : (honest : Type 0) (limit : ManifestLimit) (h : HeldManifest) (v : Levels) (next : ℕ) (was is : Told) → IsBegun honest limit h v next was is → is.made ≡ StartManifest h.number h.bytes ∷ was.made
begun_made honest limit h v next was is b =
    let bytes : List ℕ = record_of [] (version_edit b.before v (b.number + 1)) in
    b.rolls.sent.made
    ∙ (ap (λ (m : List Asked). StartManifest b.number bytes ∷ m) b.found.told.made
    ∙ ap (λ (x : HeldManifest). StartManifest x.number x.bytes ∷ was.made) (sym b.rolls.held))

start_refused_made : (Refused : Asked → ShelfFault → Type 0) (honest : Type 0) (limit : ManifestLimit) (e : OpenFault) (was is : Told) → IsStartRefusal Refused honest limit e was is → is.made ≡ was.made
start_refused_made Refused honest limit (opening.Shelf e) was is r = r.told.made ∙ r.found.told.made
start_refused_made Refused honest limit opening.NumbersSpent was is r = r.found.told.made
start_refused_made Refused honest limit (opening.Recover e) was is r = absurd r
start_refused_made Refused honest limit (opening.Check e) was is r = absurd r
start_refused_made Refused honest limit opening.OutOfMemory was is r = absurd r

pub open_refused_made : (Stored : ℕ → List ℕ → Type 0) (Refused : Asked → ShelfFault → Type 0) (honest : Type 0) (limit : ManifestLimit) (e : OpenFault) (was is : Told)
    → IsOpenRefusal Stored Refused honest limit e was is → is.made ≡ was.made
open_refused_made Stored Refused honest limit e was is (inl r) = find_refused_made Stored Refused honest e was is r
open_refused_made Stored Refused honest limit e was is (inr r) = start_refused_made Refused honest limit e was is r

-- ---- an ingest

-- the table was put, and then the manifest written
pub ingest_made : (old new : Held) (ws : List Write) (r : Ingested) (was is : Told) (i : Ingests old new ws r was is)
    → is.made ≡ changes_by (record old { next = suc old.next }) (coming_in i.table (last_of old ws)) ∷ Put old.next (table_bytes_of old ws) ∷ was.made
ingest_made old new ws r was is i =
    let d = coming_in i.table (last_of old ws) in
    sent_made d (changed_by d i.slots.version) (suc old.next) new.next old.journal new.journal i.mid is i.changes.sends
    ∙ (ap (λ (v : Levels). asked_by d (changed_by d v) (suc old.next) old.journal ∷ i.mid.made) i.sought.looked.version
    ∙ (ap (λ (m : List Asked). changes_by (record old { next = suc old.next }) d ∷ m) i.put.made
    ∙ ap (λ (image : List ℕ). changes_by (record old { next = suc old.next }) d ∷ Put old.next image ∷ was.made) i.bytes))

-- the table was put where its record found no memory, and else nothing was made
put_fault_made : (number : ℕ) (image : List ℕ) (e : StateFault) (was is : Told) → IsPutFault number image e was is → (is.made ≡ was.made) ⊎ (is.made ≡ Put number image ∷ was.made)
put_fault_made number image (state.Shelf fault) was is r = elim r.2 [ inl none ↦ inl none.made | inr put ↦ inr put.1.made ]
put_fault_made number image state.OutOfMemory was is r = absurd r
put_fault_made number image (state.Read fault) was is r = absurd r
put_fault_made number image (state.BadLevel level) was is r = absurd r
put_fault_made number image state.EmptyBatch was is r = absurd r
put_fault_made number image (state.KeyOrder place) was is r = absurd r
put_fault_made number image state.TooLarge was is r = absurd r
put_fault_made number image state.LevelZeroFull was is r = absurd r
put_fault_made number image state.SequencesSpent was is r = absurd r
put_fault_made number image state.Halted was is r = absurd r
put_fault_made number image (state.UnknownSnapshot id) was is r = absurd r
put_fault_made number image (state.Conflict ticket) was is r = absurd r
put_fault_made number image (state.UnknownTicket ticket) was is r = absurd r
put_fault_made number image state.NumbersSpent was is r = absurd r
put_fault_made number image state.Stale was is r = absurd r
put_fault_made number image state.SlotsHeld was is r = absurd r
put_fault_made number image state.VersionsSpent was is r = absurd r
put_fault_made number image state.PinsSpent was is r = absurd r

pub put_refused_made : (old new : Held) (ws : List Write) (e : StateFault) (was is : Told) → FailsToPut old new ws e was is
    → (is.made ≡ was.made) ⊎ (is.made ≡ Put old.next (table_bytes_of old ws) ∷ was.made)
put_refused_made old new ws e was is r = put_fault_made old.next (table_bytes_of old ws) e was is r.1

-- the table was put, and no manifest written
pub change_refused_made : (old new : Held) (ws : List Write) (e : StateFault) (was is : Told) → FailsToChange old new ws e was is → is.made ≡ Put old.next (table_bytes_of old ws) ∷ was.made
change_refused_made old new ws e was is r = r.4.made ∙ r.1.made

-- nothing was made but, at most, the put of the table
pub ingest_refused_made : (old new : Held) (ws : List Write) (e : StateFault) (was is : Told) → IsIngestRefusal old new ws e was is
    → (is.made ≡ was.made) ⊎ (is.made ≡ Put old.next (table_bytes_of old ws) ∷ was.made)
ingest_refused_made old new ws e was is (inl r) = inl (ap (λ (t : Told). t.made) r.2)
ingest_refused_made old new ws e was is (inr (w, inl r)) = inl (ap (λ (t : Told). t.made) r.3)
ingest_refused_made old new ws e was is (inr (w, inr (sought, slot, inl r))) = inl (ap (λ (t : Told). t.made) r.2)
ingest_refused_made old new ws e was is (inr (w, inr (sought, slot, inr (inl r)))) = put_refused_made old new ws e was is r
ingest_refused_made old new ws e was is (inr (w, inr (sought, slot, inr (inr r)))) = inr (change_refused_made old new ws e was is r)

-- ---- an install

-- the manifest was written; a refused install says by its clause `unsent` that nothing was
pub install_made : (old new : Held) (d : Done) (was is : Told) (i : Installed old new d was is) → is.made ≡ changes_by old i.change ∷ was.made
install_made old new d was is i =
    sent_made i.change (changed_by i.change i.slots.version) old.next new.next old.journal new.journal was is i.changes.sends
    ∙ ap (λ (v : Levels). asked_by i.change (changed_by i.change v) old.next old.journal ∷ was.made) i.sought.looked.version

-- ---- a collect

-- the tables were removed in order
pub collect_made : (h : Held) (removed : List ℕ) (was is : Told) → AreCollected h removed was is → is.made ≡ going (removals_of removed) was.made
collect_made h removed was is c = c.told.made

-- those that the refusal has were, and perhaps one more, which is not kept
pub collect_refused_made : (old new : Held) (e : StateFault) (removed : List ℕ) (was is : Told) → IsCollectRefusal old new e removed was is
    → (is.made ≡ going (removals_of removed) was.made) ⊎ ((n : ℕ) × (IsKeptNumber new n → ⊥) × (is.made ≡ Remove n ∷ going (removals_of removed) was.made))
collect_refused_made old new e removed was is (inl r) = inl (r.4.made ∙ sym (ap (λ (ns : List ℕ). going (removals_of ns) was.made) r.3))
collect_refused_made old new e removed was is (inr r) = elim r.2 [
  | inl none ↦ inl (none.1.made ∙ sym (ap (λ (ns : List ℕ). going (removals_of ns) was.made) none.0))
  | inr some ↦ elim some.3.asked [
    | inl told ↦ inl told.made
    | inr one ↦ inr (
      one.0,
      outside_free new some.1 some.0 some.2 one.0 (stopped_next (outside some.1 some.0) removed some.3.back one.0 one.1 some.3.parts one.2),
      one.3.made ∙ removals-push removed one.0 was.made,
    )
  ]
]
