-- What each command is to the plain machine, and to the history.
use Rattle.std.proofs.Common.{◌≡◌, ℕ, suc, ◌+◌, ◌≤◌, Bool, true, false, cond, List, [], ◌∷◌, ◌++◌, refl, sym, ◌∙◌, ap, subst, inl, inr, arith}
use Rattle.lsm_codec.specs.Entries.{Entry}
use Rattle.lsm_model.specs.Plain.{Plain}
use Rattle.lsm_model.specs.Runs.{Event, Ingest, Snapshot, Release, Reserve, Cancel, Draw, Install, Gather, Spend, Nothing, Run, ingested}
use Rattle.lsm_shelf.specs.Told.{Told}
use Rattle.lsm_version.specs.Versions.{files}
use Rattle.lsm_batch.specs.declared.write.Write.{Write}
use Rattle.lsm_slots.specs.Slots.{Slotted}
use Rattle.lsm_merge.specs.Work.{Done, Work, job_of}
use Rattle.lsm_picker.specs.TablePlans.{plan_of}
use Rattle.lsm_live.specs.Booked.{without}
use Rattle.lsm_live.proofs.CallerLemmas.{lives_booked, lives_without}
use Rattle.lsm_journal.specs.HeldManifest.{is_at_limit}
use Rattle.lsm_state.specs.Changing.{IsChangeRefusal, Sought, next_spent}
use Rattle.lsm_state.specs.Held.{Held, plain}
use Rattle.lsm_state.specs.Ingesting.{IsIngestRefusal}
use Rattle.lsm_state.specs.Installing.{IsInstallRefusal, IsRefusedLater}
use Rattle.lsm_state.specs.Reserving.{IsReserving, plan_in, reserved}
use Rattle.lsm_state.specs.declared.state_fault.StateFault.{StateFault}
use Rattle.lsm_state.specs.declared.state_fault.StateFault.TheVariants.{OutOfMemory, Shelf, Read, BadLevel, EmptyBatch, KeyOrder, TooLarge, LevelZeroFull, SequencesSpent, Halted, UnknownSnapshot, Conflict, UnknownTicket, NumbersSpent, Stale, SlotsHeld, VersionsSpent, PinsSpent}
use Rattle.lsm_script.specs.Drawing.{AreDrawn, DrawsOne}

-- ---- runs one after another

pub run_append : (H : Type 0) (a b c : Plain) (es fs : List Event) → Run H a es b → Run H b fs c → Run H a (es ++ fs) c
run_append H a b c [] fs r q = subst (λ (x : Plain). Run H x fs c) r q
run_append H a b c (e ∷ es) fs r q = (r.0, r.1, run_append H r.0 b c es fs r.2 q)

pub ingested_append : (es fs : List Event) (xs : List Entry) → ingested (es ++ fs) xs ≡ ingested fs (ingested es xs)
ingested_append [] fs xs = refl
ingested_append (Ingest new ∷ es) fs xs = ingested_append es fs (new ++ xs)
ingested_append (Snapshot ∷ es) fs xs = ingested_append es fs xs
ingested_append (Release id ∷ es) fs xs = ingested_append es fs xs
ingested_append (Reserve plan job ∷ es) fs xs = ingested_append es fs xs
ingested_append (Cancel ticket ∷ es) fs xs = ingested_append es fs xs
ingested_append (Draw ticket ∷ es) fs xs = ingested_append es fs xs
ingested_append (Install ticket ∷ es) fs xs = ingested_append es fs xs
ingested_append (Gather ∷ es) fs xs = ingested_append es fs xs
ingested_append (Spend ∷ es) fs xs = ingested_append es fs xs
ingested_append (Nothing ∷ es) fs xs = ingested_append es fs xs

-- ---- what brings nothing in

-- Some events of the machine lead there, which bring nothing in; the last sequence and the snapshots stay.
pub record Quiet (H : Type 0) (old new : Held) : Type 0 where
  pub events : List Event
  pub run : Run H (plain old) events (plain new)
  pub none : (xs : List Entry) → ingested events xs ≡ xs
  pub last : new.slots.version.last ≡ old.slots.version.last
  pub snapshots : new.snapshots.taken ≡ old.snapshots.taken

pub quiet_same : (H : Type 0) (h : Held) → Quiet H h h
quiet_same H h = record { events = []; run = refl; none = λ xs. refl; last = refl; snapshots = refl }

pub quiet_is : (H : Type 0) (old new : Held) → new ≡ old → Quiet H old new
quiet_is H old new e = subst (λ (h : Held). Quiet H old h) (sym e) (quiet_same H old)

pub quiet_then : (H : Type 0) (a b c : Held) → Quiet H a b → Quiet H b c → Quiet H a c
quiet_then H a b c p q = record {
  events = p.events ++ q.events;
  run = run_append H (plain a) (plain b) (plain c) p.events q.events p.run q.run;
  none = λ xs. ingested_append p.events q.events xs ∙ (q.none (ingested p.events xs) ∙ p.none xs);
  last = q.last ∙ p.last;
  snapshots = q.snapshots ∙ p.snapshots;
}

-- a number is booked
quiet_draw : (H : Type 0) (ticket number : ℕ) (old new : Held) → DrawsOne ticket number old new → Quiet H old new
quiet_draw H ticket number old new d = subst (λ (h : Held). Quiet H old h) (sym d.is) (subst (λ (n : ℕ). Quiet H old (record old { live = Rattle.lsm_live.specs.Booked.booked ticket n old.live; next = suc n })) (sym d.next) record {
  events = Draw ticket ∷ [];
  run = (
    plain (record old { live = Rattle.lsm_live.specs.Booked.booked ticket old.next old.live; next = suc old.next }),
    ap (λ l. record (plain old) { live = l; next = suc old.next }) (lives_booked ticket old.next old.live),
    refl,
  );
  none = λ xs. refl;
  last = refl;
  snapshots = refl;
})

pub quiet_drawn : (H : Type 0) (ticket : ℕ) (ns : List ℕ) (old new : Held) → AreDrawn ticket ns old new → Quiet H old new
quiet_drawn H ticket [] old new e = quiet_is H old new e
quiet_drawn H ticket (n ∷ ns) old new d = quiet_then H old d.0 new (quiet_drawn H ticket ns old d.0 d.1) (quiet_draw H ticket n d.0 new d.2)

-- a job is reserved
pub quiet_reserved : (H : Type 0) (w : Work) (old new : Held) → new ≡ reserved w old → IsReserving H old w new → Quiet H old new
quiet_reserved H w old new e r = record {
  events = Reserve (plan_of (plan_in w)) (job_of w) ∷ [];
  run = (plain new, r, refl);
  none = λ xs. refl;
  last = ap (λ (h : Held). h.slots.version.last) e;
  snapshots = ap (λ (h : Held). h.snapshots.taken) e;
}

-- a job goes out
pub quiet_cancelled : (H : Type 0) (ticket : ℕ) (old new : Held) → new ≡ record old { live = without ticket old.live } → Quiet H old new
quiet_cancelled H ticket old new e = subst (λ (h : Held). Quiet H old h) (sym e) record {
  events = Cancel ticket ∷ [];
  run = (plain (record old { live = without ticket old.live }), ap (λ l. record (plain old) { live = l }) (lives_without ticket old.live), refl);
  none = λ xs. refl;
  last = refl;
  snapshots = refl;
}

-- slots are looked at or pinned, numbers may be spent, and the state may be halted
pub record Idles (old new : Held) : Type 0 where
  pub version : new.slots.version ≡ old.slots.version
  pub next : old.next ≤ new.next
  pub is : new ≡ record old { slots = new.slots; next = new.next; halted = new.halted }

idle_quiet : (H : Type 0) (old : Held) (slots : Slotted) (next : ℕ) (halted : Bool) → slots.version ≡ old.slots.version → old.next ≤ next
    → Quiet H old (record old { slots = slots; next = next; halted = halted })
idle_quiet H old slots next halted v le = record {
  events = Spend ∷ [];
  run = (plain (record old { slots = slots; next = next; halted = halted }), (next, le, ap (λ w. record (plain old) { files = files w; last = w.last; next = next }) v), refl);
  none = λ xs. refl;
  last = ap (λ w. w.last) v;
  snapshots = refl;
}

pub looks_idle : (old new : Held) → new.slots.version ≡ old.slots.version → new ≡ record old { slots = new.slots } → Idles old new
looks_idle old new v e = go new.slots v e
  where
    go : (s : Slotted) → s.version ≡ old.slots.version → new ≡ record old { slots = s } → Idles old new
    go s w q = subst (λ (h : Held). Idles old h) (sym q) record { version = w; next = omega arith; is = refl }

pub quiet_idle : (H : Type 0) (old new : Held) → Idles old new → Quiet H old new
quiet_idle H old new i = subst (λ (h : Held). Quiet H old h) (sym i.is) (idle_quiet H old new.slots new.next new.halted i.version i.next)

-- ---- refusals

spent_le : (h : Held) → h.next ≤ next_spent h
spent_le h = go (is_at_limit h.journal)
  where
    go : (b : Bool) → h.next ≤ cond b (h.next + 1) h.next
    go true = omega arith
    go false = omega arith

change_idles : (old new : Held) (e : StateFault) (was is : Told) → IsChangeRefusal old new e was is → Idles old new
change_idles old new OutOfMemory was is r = subst (λ (h : Held). Idles old h) (sym r.0) record { version = refl; next = omega arith; is = refl }
change_idles old new (Shelf f) was is r = subst (λ (h : Held). Idles old h) (sym r.0) record { version = refl; next = spent_le old; is = refl }
change_idles old new (Read f) was is r = absurd r
change_idles old new (BadLevel n) was is r = absurd r
change_idles old new EmptyBatch was is r = absurd r
change_idles old new (KeyOrder n) was is r = absurd r
change_idles old new TooLarge was is r = absurd r
change_idles old new LevelZeroFull was is r = absurd r
change_idles old new SequencesSpent was is r = absurd r
change_idles old new Halted was is r = absurd r
change_idles old new (UnknownSnapshot n) was is r = absurd r
change_idles old new (Conflict n) was is r = absurd r
change_idles old new (UnknownTicket n) was is r = absurd r
change_idles old new NumbersSpent was is r = absurd r
change_idles old new Stale was is r = absurd r
change_idles old new SlotsHeld was is r = absurd r
change_idles old new VersionsSpent was is r = absurd r
change_idles old new PinsSpent was is r = absurd r

idles_same : (old new : Held) → new ≡ old → Idles old new
idles_same old new e = subst (λ (h : Held). Idles old h) (sym e) record { version = refl; next = omega arith; is = refl }

-- a state whose slots were looked at, and which then idled
idles_after : (old new : Held) (slots : Slotted) (next : ℕ) → slots.version ≡ old.slots.version → old.next ≤ next → Idles (record old { slots = slots; next = next }) new → Idles old new
idles_after old new slots next v le i = record { version = i.version ∙ v; next = (let k = i.next in omega arith); is = i.is }

pub ingest_idles : (old new : Held) (ws : List Write) (e : StateFault) (was is : Told) → IsIngestRefusal old new ws e was is → Idles old new
ingest_idles old new ws e was is (inl r) = idles_same old new r.1
ingest_idles old new ws e was is (inr r) = elim r.1 [
  | inl l ↦ looked new.slots l.1.looked.version l.0
  | inr l ↦ elim l.2 [
    | inl b ↦ looked new.slots l.0.looked.version b.0
    | inr b ↦ elim b [
      | inl p ↦ spent new.slots l.0.looked.version p.0
      | inr c ↦ idles_after old new new.slots (suc old.next) l.0.looked.version (omega arith) (change_idles (record old { slots = new.slots; next = suc old.next }) new e c.0 is c.3)
    ]
  ]
]
  where
    looked : (s : Slotted) → s.version ≡ old.slots.version → new ≡ record old { slots = s } → Idles old new
    looked s v q = subst (λ (h : Held). Idles old h) (sym q) record { version = v; next = omega arith; is = refl }

    spent : (s : Slotted) → s.version ≡ old.slots.version → new ≡ record old { slots = s; next = suc old.next } → Idles old new
    spent s v q = subst (λ (h : Held). Idles old h) (sym q) record { version = v; next = omega arith; is = refl }

later_idles : (old new : Held) (e : StateFault) (was is : Told) → Sought old.slots new.slots → IsRefusedLater old new e was is → Idles old new
later_idles old new SlotsHeld was is s r = subst (λ (h : Held). Idles old h) (sym r.1) record { version = s.looked.version; next = omega arith; is = refl }
later_idles old new VersionsSpent was is s r = subst (λ (h : Held). Idles old h) (sym r.1) record { version = s.looked.version; next = omega arith; is = refl }
later_idles old new OutOfMemory was is s r = subst (λ (h : Held). Idles old h) (sym r.0) record { version = s.looked.version; next = omega arith; is = refl }
later_idles old new (Shelf f) was is s r = idles_after old new new.slots old.next s.looked.version (omega arith) (change_idles (record old { slots = new.slots }) new (Shelf f) was is (r.0, r.1, r.2))
later_idles old new (Read f) was is s r = absurd r
later_idles old new (BadLevel n) was is s r = absurd r
later_idles old new EmptyBatch was is s r = absurd r
later_idles old new (KeyOrder n) was is s r = absurd r
later_idles old new TooLarge was is s r = absurd r
later_idles old new LevelZeroFull was is s r = absurd r
later_idles old new SequencesSpent was is s r = absurd r
later_idles old new Halted was is s r = absurd r
later_idles old new (UnknownSnapshot n) was is s r = absurd r
later_idles old new (Conflict n) was is s r = absurd r
later_idles old new (UnknownTicket n) was is s r = absurd r
later_idles old new NumbersSpent was is s r = absurd r
later_idles old new Stale was is s r = absurd r
later_idles old new PinsSpent was is s r = absurd r

pub install_idles : (old new : Held) (d : Done) (e : StateFault) (was is : Told) → IsInstallRefusal old new d e was is → Idles old new
install_idles old new d e was is (inl r) = idles_same old new r.1
install_idles old new d e was is (inr r) = later_idles old new e was is r.1 r.2
