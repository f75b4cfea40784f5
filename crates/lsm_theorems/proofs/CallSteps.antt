-- Each call's contract, as what the call is in a chain.
use Rattle.std.proofs.Common.{◌≡◌, ℕ, suc, List, [], ◌∷◌, ◌++◌, Option, Some, None, Result, Ok, Err, refl, ◌∙◌, ap, arith}
use Rattle.std.specs.Prelude.{IfNone, IfOk, IfSome, MatchOption, OnErr, OnOk}
use Rattle.lsm_codec.specs.Entries.{answer}
use Rattle.lsm_codec.specs.Keys.{UserKey}
use Rattle.lsm_model.specs.Files.{all_entries}
use Rattle.lsm_model.specs.Plain.{Cancels, Draws, Releases, Spends, TakesSnapshot, without_snapshot}
use Rattle.lsm_model.specs.Plain as machine
use Rattle.lsm_shelf.specs.Told.{Told}
use Rattle.lsm_table.specs.Registry.{Table}
use Rattle.lsm_version.specs.Changes.{changed}
use Rattle.lsm_version.specs.Versions.{Levels, files}
use Rattle.lsm_batch.specs.declared.write.Write.{Write}
use Rattle.lsm_journal.specs.Difference.{Difference, changed_by}
use Rattle.lsm_live.specs.Booked.{HasTicket, booked, without}
use Rattle.lsm_merge.specs.Work.{Done, Work}
use Rattle.lsm_slots.specs.Snapshots.{HasId}
use Rattle.lsm_state.specs.Gathering.{Gathers, IsGathering}
use Rattle.lsm_state.specs.Held.{Held, plain}
use Rattle.lsm_state.specs.Ingesting.{Ingests, coming_in, entries_of, last_of}
use Rattle.lsm_state.specs.Installing.{IsInstalling}
use Rattle.lsm_state.specs.Reading.{IsSequence}
use Rattle.lsm_state.specs.Reserving.{IsReserving, reserved}
use Rattle.lsm_state.specs.declared.ingest.Ingested.{Ingested}
use Rattle.lsm_store.specs.Background as store
use Rattle.lsm_theorems.specs.Calls.{BringsNone, Call, Cancel, Draw, Gather, Get, Ingest, Install, IsCall, Look, Refused, Release, Reserve, Snapshot}

-- ---- what changes nothing that the machine or the history sees

pub look_so : (H : Type 0) (old mid new : Held) → new ≡ mid → plain mid ≡ plain old → mid.history ≡ old.history → IsCall H Look old new
look_so H old mid new e p h = (ap plain e ∙ p, ap (λ (x : Held). x.history) e ∙ h)

spends_none : (old new : Held) → new ≡ old → Spends (plain old) (plain new)
spends_none old new e = (old.next, omega arith, ap plain e)

-- a refused call that changed nothing
pub same_so : {T E : Type 0} (H : Type 0) (r : Result T E) (old new : Held) → OnErr r (new ≡ old) → OnErr r (IsCall H Refused old new)
same_so H (Ok v) old new e = tt
same_so H (Err x) old new e = (spends_none old new e, ap (λ (h : Held). h.history) e)

-- a refused call that may have spent numbers
pub spent_so : {T E : Type 0} (H : Type 0) (r : Result T E) (old new : Held) → OnErr r (Spends (plain old) (plain new)) → OnErr r (BringsNone old new) → OnErr r (IsCall H Refused old new)
spent_so H (Ok v) old new s h = tt
spent_so H (Err x) old new s h = (s, h)

-- ---- batches

-- the last sequence of a version after a change
changed_last : (deleted : List ℕ) (added : List (ℕ × Table)) (pointer : Option (ℕ × List ℕ)) (last : ℕ) (v : Levels) → (changed deleted added pointer last v).last ≡ last
unfolding changed
changed_last deleted added pointer last v = refl

last_after : (d : Difference) (v : Levels) → (changed_by d v).last ≡ d.last
last_after d v = changed_last _ d.added d.pointer d.last v

came_last : (old new : Held) (ws : List Write) (r : Ingested) (was is : Told) → Ingests old new ws r was is → new.slots.version.last ≡ last_of old ws
came_last old new ws r was is i = ap (λ (v : Levels). v.last) i.changes.published.version_is ∙ last_after (coming_in i.table (last_of old ws)) _

pub ingest_so : {E : Type 0} (H : Type 0) (r : Result Ingested E) (old new : Held) (ws : List Write) (was is : Told) → IfOk r (λ v. Ingests old new ws v was is)
    → OnOk r (machine.Ingests (plain old) (entries_of old ws) (plain new)) → OnOk r (new.history ≡ entries_of old ws ++ old.history) → IfOk r (λ v. IsCall H (Ingest ws v) old new)
ingest_so H (Ok v) old new ws was is i event history = record {
  event = event;
  history = history;
  first = i.first;
  last = i.last;
  last_is = came_last old new ws v was is i;
}
ingest_so H (Err e) old new ws was is i event history = tt

-- so where it came in beside workers
pub brought_so : (H : Type 0) (old new : Held) (ws : List Write) (r : Ingested) (was is : Told) → store.BringsIn old new ws r was is → IsCall H (Ingest ws r) old new
brought_so H old new ws r was is b = record {
  event = b.event;
  history = b.history;
  first = b.ingests.first;
  last = b.ingests.last;
  last_is = came_last old new ws r was is b.ingests;
}

-- ---- reads and snapshots

pub get_so : {V E : Type 0} (H : Type 0) (r : Result V E) (see : V → Option (List ℕ)) (h : Held) (k : UserKey) (at : Option ℕ)
    → IfOk r (λ v. (seq : ℕ) × IsSequence h at seq × (H → see v ≡ answer (all_entries (files h.slots.version)) k seq)) → IfOk r (λ v. IsCall H (Get k at (see v)) h h)
get_so H (Ok v) see h k at p = (refl, p)
get_so H (Err e) see h k at p = tt

pub snapshot_so : {E : Type 0} (H : Type 0) (r : Result ℕ E) (old new : Held)
    → IfOk r (λ id. (id ≡ old.snapshots.next) × (new ≡ record old { snapshots = record { taken = old.snapshots.taken ++ (id, old.slots.version.last) ∷ []; next = suc id } }))
    → OnOk r (TakesSnapshot (plain old) (plain new)) → IfOk r (λ id. IsCall H (Snapshot id) old new)
snapshot_so H (Ok id) old new p event = (event, p.0, ap (λ (h : Held). h.history) p.1)
snapshot_so H (Err e) old new p event = tt

pub release_so : {T E : Type 0} (H : Type 0) (r : Result T E) (old new : Held) (id : ℕ)
    → OnOk r (HasId old.snapshots.taken id × (new ≡ record old { snapshots = record old.snapshots { taken = without_snapshot id old.snapshots.taken } }))
    → OnOk r (Releases (plain old) id (plain new)) → OnOk r (IsCall H (Release id) old new)
release_so H (Ok v) old new id p event = (event, p.0, ap (λ (h : Held). h.history) p.1)
release_so H (Err e) old new id p event = tt

-- ---- jobs

pub reserve_so : {E : Type 0} (H : Type 0) (r : Result (Option Work) E) (old new : Held) → IfOk r (λ o. IfSome o (λ w. new ≡ reserved w old)) → IfOk r (λ o. IfSome o (λ w. IsReserving H old w new))
    → IfOk r (λ o. IfSome o (λ w. IsCall H (Reserve w) old new))
reserve_so H (Ok (Some w)) old new e event = (event, ap (λ (h : Held). h.history) e)
reserve_so H (Ok None) old new e event = tt
reserve_so H (Err x) old new e event = tt

pub none_so : {X E : Type 0} (H : Type 0) (r : Result (Option X) E) (old new : Held) → IfOk r (λ o. IfNone o (new ≡ old)) → IfOk r (λ o. IfNone o (IsCall H Look old new))
none_so H (Ok (Some w)) old new e = tt
none_so H (Ok None) old new e = look_so H old old new e refl refl
none_so H (Err x) old new e = tt

pub draw_so : {E : Type 0} (H : Type 0) (r : Result ℕ E) (old new : Held) (ticket : ℕ) (Live : Type 0) (Unspent : ℕ → Type 0)
    → IfOk r (λ n. Live × (n ≡ old.next) × Unspent n × (new ≡ record old { live = booked ticket n old.live; next = suc n }))
    → OnOk r (Draws (plain old) ticket (plain new)) → IfOk r (λ n. IsCall H (Draw ticket n) old new)
draw_so H (Ok n) old new ticket Live Unspent p event = (event, p.1, ap (λ (h : Held). h.history) p.3)
draw_so H (Err e) old new ticket Live Unspent p event = tt

pub install_so : {T E : Type 0} (H : Type 0) (r : Result T E) (old new : Held) (d : Done) → OnOk r (IsInstalling H old d.work.ticket new) → BringsNone old new → OnOk r (IsCall H (Install d) old new)
install_so H (Ok v) old new d event h = (event, h)
install_so H (Err e) old new d event h = tt

pub gather_so : {E : Type 0} (H : Type 0) (r : Result (Option ℕ) E) (old new : Held) (was is : Told) (Without : Type 0) → IfOk r (λ o. MatchOption o Without (λ n. Gathers H old new n was is))
    → IfOk r (λ o. IfSome o (λ n. IsGathering H old new)) → BringsNone old new → IfOk r (λ o. IfSome o (λ n. IsCall H (Gather n) old new))
gather_so H (Ok (Some n)) old new was is Without g event h = (event, g.number_is, h)
gather_so H (Ok None) old new was is Without g event h = tt
gather_so H (Err e) old new was is Without g event h = tt

pub ungathered_so : {X E : Type 0} (H : Type 0) (r : Result (Option X) E) (old new : Held) (Same : Type 0) → IfOk r (λ o. IfNone o ((new ≡ old) × Same)) → IfOk r (λ o. IfNone o (IsCall H Look old new))
ungathered_so H (Ok (Some x)) old new Same e = tt
ungathered_so H (Ok None) old new Same e = look_so H old old new e.0 refl refl
ungathered_so H (Err x) old new Same e = tt

pub unspent_so : {T E : Type 0} (H : Type 0) (r : Result T E) (old new : Held) → OnErr r (Spends (plain old) (plain new)) → BringsNone old new → OnErr r (IsCall H Refused old new)
unspent_so H (Ok v) old new s h = tt
unspent_so H (Err x) old new s h = (s, h)

pub cancel_so : {T E : Type 0} (H : Type 0) (r : Result T E) (old new : Held) (ticket : ℕ) → OnOk r (HasTicket old.live ticket × (new ≡ record old { live = without ticket old.live }))
    → OnOk r (Cancels (plain old) ticket (plain new)) → OnOk r (IsCall H (Cancel ticket) old new)
cancel_so H (Ok v) old new ticket p event = (event, ap (λ (h : Held). h.history) p.1)
cancel_so H (Err e) old new ticket p event = tt

-- ---- slots, pins and readers

-- the machine is as before, and what is spelled brings nothing in
pub slots_so : (H : Type 0) (old mid new : Held) → plain new ≡ plain old → new ≡ mid → mid.history ≡ old.history → IsCall H Look old new
slots_so H old mid new p e h = (p, ap (λ (x : Held). x.history) e ∙ h)

-- ---- under a lock

-- an ingest is a call, whatever is answered
pub made_so : {E : Type 0} (H : Type 0) (r : Result Ingested E) (old new : Held) (ws : List Write) → IfOk r (λ v. IsCall H (Ingest ws v) old new) → OnErr r (IsCall H Refused old new)
    → (c : Call) × IsCall H c old new
made_so H (Ok v) old new ws ok err = (Ingest ws v, ok)
made_so H (Err e) old new ws ok err = (Refused, err)
