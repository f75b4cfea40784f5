-- What the smaller calls leave of the law of a state.
use Rattle.std.proofs.Common.{◌≡◌, ℕ, zero, suc, ◌+◌, ◌-◌, ◌==◌, Bool, true, false, cond, not, inl, inr, Option, None, Some, replicate, List, [], ◌∷◌, ◌++◌, refl, sym, ◌∙◌, ap, subst, arith}
use Rattle.atomic_table.specs.Seated.{TableId}
use Rattle.lsm_codec.specs.Entries.{Entry, answer}
use Rattle.lsm_codec.specs.Keys.{UserKey}
use Rattle.lsm_codec.specs.Lists.{Has}
use Rattle.lsm_codec.proofs.CallerLemmas.{all_at, filter_has}
use Rattle.lsm_pins.specs.Known.{Known}
use Rattle.lsm_pins.specs.Made.{IsNewPinner}
use Rattle.lsm_pins.specs.declared.view.View.{View}
use Rattle.lsm_version.specs.Versions.{Levels, files, no_levels}
use Rattle.lsm_model.specs.Files.{all_entries}
use Rattle.lsm_model.specs.Law.{Law}
use Rattle.lsm_model.specs.Plain.{Cancels, Draws, IsReadable, Plain, Releases, TakesSnapshot, created, without_snapshot}
use Rattle.lsm_model.specs.Runs.{Agrees, Event, Step, Snapshot, Release, Cancel, Draw, ingested}
use Rattle.lsm_model.proofs.CallerLemmas.{step_agrees, step_law}
use Rattle.lsm_slots.specs.Slots.{Looked, PinsMove, Slotted, first_slots, numbers_held}
use Rattle.lsm_slots.specs.Snapshots.{Taken}
use Rattle.lsm_merge.specs.Work.{Work}
use Rattle.lsm_live.specs.Booked.{Booked, booked, drawing, without}
use Rattle.lsm_live.proofs.CallerLemmas.{lives_booked, lives_without}
use Rattle.lsm_journal.specs.HeldManifest.{HeldManifest}
use Rattle.lsm_journal.specs.Recorded.{IsRecorded}
use Rattle.lsm_journal.specs.Writing.{created_under}
use Rattle.lsm_journal.proofs.CallerLemmas.{later}
use Rattle.lsm_state.specs.Making.{IsNewBoard, created_state_under}
use Rattle.lsm_state.specs.Options.{Fits}
use Rattle.lsm_state.specs.Reading.{IsSequence}
use Rattle.lsm_state.specs.declared.options.Options.{Options}
use Rattle.lsm_state.specs.Held.{HasInputs, Held, IsLawfulState, plain}
use Rattle.lsm_state.proofs.Numbers.{looked_numbers, pinned_numbers}
use Rattle.lsm_state.specs.Options.{limit_of}

-- an event keeps the machine's law
pub stepped : (honest : Type 0) (s : Plain) (e : Event) (t : Plain) → Law honest s → Step honest s e t → Law honest t
stepped honest s e t l step = step_law honest s e t l step

-- an event takes a history on by what came in
pub agreed : (honest : Type 0) (s : Plain) (e : Event) (t : Plain) (es : List Entry) → Law honest s → Step honest s e t → (honest → Agrees s es) → honest → Agrees t (ingested (e ∷ []) es)
agreed honest s e t es l step a y = step_agrees honest y s e t es l step (a y)

-- ---- slots: the current version stays, and no number comes

-- which is nothing to the machine
pub nothing : (h : Held) (s : Slotted) → s.version ≡ h.slots.version → plain (record h { slots = s }) ≡ plain h
nothing h s same = ap (λ (v : Levels). record (plain h) { files = files v; last = v.last }) same

pub lawful_slots : (honest : Type 0) (board : TableId) (h : Held) (s : Slotted) → IsLawfulState honest board h → s.version ≡ h.slots.version
    → ((n : ℕ) → Has (numbers_held s.epochs) n → Has (numbers_held h.slots.epochs) n) → IsLawfulState honest board (record h { slots = s })
lawful_slots honest board h s l same fewer = record {
  law = subst (λ (p : Plain). Law honest p) (ap (λ (v : Levels). record (plain h) { files = files v; last = v.last }) (sym same)) l.law;
  journaled = (l.journaled.0, subst (λ (v : Levels). IsRecorded l.journaled.0 h.journal v h.next) (sym same) l.journaled.1, l.journaled.2);
  below = λ n k. l.below n (fewer n k);
  pinners = l.pinners;
  fits = l.fits;
  inputs = λ b k. subst (λ (v : Levels). HasInputs v b.work) (sym same) (l.inputs b k);
  agrees = λ y. subst (λ (p : Plain). Agrees p h.history) (sym (nothing h s same)) (l.agrees y);
}

pub lawful_pinned : (honest : Type 0) (board : TableId) (h : Held) (s : Slotted) (id from to : ℕ) → IsLawfulState honest board h → PinsMove h.slots s id from to → IsLawfulState honest board (record h { slots = s })
lawful_pinned honest board h s id from to l m = lawful_slots honest board h s l (ap (λ (x : Slotted). x.version) m.is) (λ n k. pinned_numbers h.slots s id from to n m k)

pub lawful_looked : (honest : Type 0) (board : TableId) (h : Held) (s : Slotted) → IsLawfulState honest board h → Looked h.slots s → IsLawfulState honest board (record h { slots = s })
lawful_looked honest board h s l k = lawful_slots honest board h s l k.version (λ n m. looked_numbers h.slots s n k m)

pub lawful_same : (honest : Type 0) (board : TableId) (h : Held) (s : Slotted) → IsLawfulState honest board h → s ≡ h.slots → IsLawfulState honest board (record h { slots = s })
lawful_same honest board h s l e = subst (λ (x : Slotted). IsLawfulState honest board (record h { slots = x })) (sym e) l

-- ---- snapshots

pub taken_at : (h : Held) (taken : Taken) (id last : ℕ) → id ≡ h.snapshots.next → last ≡ h.slots.version.last → taken ≡ record { taken = h.snapshots.taken ++ (id, last) ∷ []; next = suc id }
    → taken ≡ record { taken = h.snapshots.taken ++ (h.snapshots.next, h.slots.version.last) ∷ []; next = suc h.snapshots.next }
taken_at h taken id last a b e = e ∙ (ap (λ i. let t : Taken = record { taken = h.snapshots.taken ++ (i, last) ∷ []; next = suc i } in t) a
    ∙ ap (λ n. let t : Taken = record { taken = h.snapshots.taken ++ (h.snapshots.next, n) ∷ []; next = suc h.snapshots.next } in t) b)

-- the machine's events
pub takes : (h : Held) (taken : Taken) → taken ≡ record { taken = h.snapshots.taken ++ (h.snapshots.next, h.slots.version.last) ∷ []; next = suc h.snapshots.next }
    → TakesSnapshot (plain h) (plain (record h { snapshots = taken }))
takes h taken is = ap (λ (t : Taken). plain (record h { snapshots = t })) is

pub releases : (h : Held) (taken : Taken) (id : ℕ) → taken ≡ record h.snapshots { taken = without_snapshot id h.snapshots.taken } → Releases (plain h) id (plain (record h { snapshots = taken }))
releases h taken id is = ap (λ (t : Taken). plain (record h { snapshots = t })) is

pub lawful_taken : (honest : Type 0) (board : TableId) (h : Held) (taken : Taken) → IsLawfulState honest board h
    → taken ≡ record { taken = h.snapshots.taken ++ (h.snapshots.next, h.slots.version.last) ∷ []; next = suc h.snapshots.next } → IsLawfulState honest board (record h { snapshots = taken })
lawful_taken honest board h taken l is = record {
  law = stepped honest (plain h) Snapshot (plain (record h { snapshots = taken })) l.law (takes h taken is);
  journaled = l.journaled;
  below = l.below;
  pinners = l.pinners;
  fits = l.fits;
  inputs = l.inputs;
  agrees = agreed honest (plain h) Snapshot (plain (record h { snapshots = taken })) h.history l.law (takes h taken is) l.agrees;
}

pub lawful_released : (honest : Type 0) (board : TableId) (h : Held) (taken : Taken) (id : ℕ) → IsLawfulState honest board h
    → taken ≡ record h.snapshots { taken = without_snapshot id h.snapshots.taken } → IsLawfulState honest board (record h { snapshots = taken })
lawful_released honest board h taken id l is = record {
  law = stepped honest (plain h) (Release id) (plain (record h { snapshots = taken })) l.law (releases h taken id is);
  journaled = l.journaled;
  below = l.below;
  pinners = l.pinners;
  fits = l.fits;
  inputs = l.inputs;
  agrees = agreed honest (plain h) (Release id) (plain (record h { snapshots = taken })) h.history l.law (releases h taken id is) l.agrees;
}

-- ---- jobs

drawn_work : (number : ℕ) (b : Booked) (c : Bool) → (cond c (drawing number b) b).work ≡ b.work
drawn_work number b true = refl
drawn_work number b false = refl

-- a job after a draw is a job before it
booked_from : (ticket number : ℕ) (live : List Booked) (b : Booked) → Has (booked ticket number live) b → (c : Booked) × Has live c × (c.work ≡ b.work)
booked_from ticket number [] b h = absurd h
booked_from ticket number (c ∷ live) b (inl e) = (c, inl refl, sym (drawn_work number c (c.work.ticket == ticket)) ∙ ap (λ (x : Booked). x.work) e)
booked_from ticket number (c ∷ live) b (inr h) = (let r = booked_from ticket number live b h in (r.0, inr r.1, r.2))

-- the machine's events
pub cancels : (h : Held) (live : List Booked) (ticket : ℕ) → live ≡ without ticket h.live → Cancels (plain h) ticket (plain (record h { live = live }))
cancels h live ticket is = ap (λ (b : List Booked). plain (record h { live = b })) is ∙ ap (λ ls. record (plain h) { live = ls }) (lives_without ticket h.live)

pub draws : (h : Held) (live : List Booked) (ticket next : ℕ) → live ≡ booked ticket h.next h.live → next ≡ suc h.next → Draws (plain h) ticket (plain (record h { live = live; next = next }))
draws h live ticket next is more =
    ap (λ (b : List Booked). plain (record h { live = b; next = next })) is
    ∙ (ap (λ n. plain (record h { live = booked ticket h.next h.live; next = n })) more ∙ ap (λ ls. record (plain h) { live = ls; next = suc h.next }) (lives_booked ticket h.next h.live))

pub lawful_cancelled : (honest : Type 0) (board : TableId) (h : Held) (live : List Booked) (ticket : ℕ) → IsLawfulState honest board h → live ≡ without ticket h.live
    → IsLawfulState honest board (record h { live = live })
lawful_cancelled honest board h live ticket l is = record {
  law = stepped honest (plain h) (Cancel ticket) (plain (record h { live = live })) l.law (cancels h live ticket is);
  journaled = l.journaled;
  below = l.below;
  pinners = l.pinners;
  fits = l.fits;
  inputs = λ b k. l.inputs b (filter_has (λ (c : Booked). not (c.work.ticket == ticket)) h.live b (subst (λ (bs : List Booked). Has bs b) is k)).0;
  agrees = agreed honest (plain h) (Cancel ticket) (plain (record h { live = live })) h.history l.law (cancels h live ticket is) l.agrees;
}

pub lawful_drawn : (honest : Type 0) (board : TableId) (h : Held) (live : List Booked) (ticket next : ℕ) → IsLawfulState honest board h → live ≡ booked ticket h.next h.live → next ≡ suc h.next
    → IsLawfulState honest board (record h { live = live; next = next })
lawful_drawn honest board h live ticket next l is more = record {
  law = stepped honest (plain h) (Draw ticket) (plain (record h { live = live; next = next })) l.law (draws h live ticket next is more);
  journaled = (l.journaled.0, later l.journaled.0 h.journal h.slots.version h.next next l.journaled.1 (omega arith), l.journaled.2);
  below = λ n k. (let lt = l.below n k in omega arith);
  pinners = l.pinners;
  fits = l.fits;
  inputs = λ b k. (let r = booked_from ticket h.next h.live b (subst (λ (bs : List Booked). Has bs b) is k) in subst (λ (w : Work). HasInputs h.slots.version w) r.2 (l.inputs r.0 r.1));
  agrees = agreed honest (plain h) (Draw ticket) (plain (record h { live = live; next = next })) h.history l.law (draws h live ticket next is more) l.agrees;
}

-- ---- a new database

-- the machine's law over no file, snapshot or job does not rest on the next number
law_under : (number : ℕ) (honest : Type 0) → Law honest created → Law honest (record created { next = number + 1 })
law_under number honest law = record {
  books = record {
    numbers = law.books.numbers;
    below_next = λ F h. absurd h;
    drawn_below = λ a n h k. absurd h;
    drawn_fresh = law.books.drawn_fresh;
    drawn_apart = law.books.drawn_apart;
    inputs = law.books.inputs;
    levels = law.books.levels;
    tickets = law.books.tickets;
    one_each = law.books.one_each;
    clear = law.books.clear;
    floors = law.books.floors;
    rising = law.books.rising;
    ids = law.books.ids;
    snapshots = law.books.snapshots;
  };
  meaning = λ is. (let m = law.meaning is in record { lawful = m.lawful; reached = m.reached; are_open = m.are_open });
}

pub lawful_created : (number : ℕ) (honest : Type 0) (board : TableId) (o : Options) (publisher : Known) (pinners : List Known) → Fits o → IsNewBoard board o publisher pinners → Law honest created
    → IsRecorded 0 (created_under number (limit_of o)) no_levels (number + 1) → IsLawfulState honest board (created_state_under number o publisher pinners)
lawful_created number honest board o publisher pinners fits new law recorded = record {
  law = law_under number honest law;
  journaled = (0, recorded, λ e. refl);
  below = λ n k. absurd (none_held (o.versions - 1) n k);
  pinners = λ p k. (let one = all_at (IsNewPinner board o.versions new.id) pinners p new.readers k in (one.at, ap (λ (v : View). v.held) one.knows));
  fits = fits;
  inputs = λ b k. absurd k;
  agrees = λ y. record { upto = λ e k. absurd k; one = λ e f k m key same. absurd k; reads = λ k q r. refl };
}
  where
    none_held : (m n : ℕ) → Has (numbers_held (replicate m None)) n → ⊥
    none_held zero n h = h
    none_held (suc m) n h = none_held m n h

-- the same of its parts, as they were made
pub lawful_made : (number : ℕ) (honest : Type 0) (board : TableId) (o : Options) (publisher : Known) (pinners : List Known) (s : Slotted) (taken : Taken) (live : List Booked) (j : HeldManifest) (es : List Entry)
    → s ≡ first_slots publisher o.versions no_levels → taken ≡ record { taken = []; next = 1 } → live ≡ [] → j ≡ created_under number (limit_of o) → es ≡ [] → IsLawfulState honest board (created_state_under number o publisher pinners)
    → IsLawfulState honest board (record { options = o; slots = s; snapshots = taken; next = number + 1; next_ticket = 1; live = live; journal = j; halted = false; pinners = pinners; history = es })
lawful_made number honest board o publisher pinners s taken live j es a b c d e l =
    let h : Held = created_state_under number o publisher pinners in
    subst (λ (x : Slotted). IsLawfulState honest board (record h { slots = x; snapshots = taken; live = live; journal = j; history = es })) (sym a)
    (subst (λ (x : Taken). IsLawfulState honest board (record h { snapshots = x; live = live; journal = j; history = es })) (sym b)
    (subst (λ (x : List Booked). IsLawfulState honest board (record h { live = x; journal = j; history = es })) (sym c)
    (subst (λ (x : HeldManifest). IsLawfulState honest board (record h { journal = x; history = es })) (sym d)
    (subst (λ (x : List Entry). IsLawfulState honest board (record h { history = x })) (sym e) l))))

-- ---- the history

-- a live snapshot's sequence, or the last, is one at which reads are promised
promised : (h : Held) (at : Option ℕ) (seq : ℕ) → IsSequence h at seq → IsReadable (plain h) seq
promised h None seq is = inl is
promised h (Some id) seq is = inr ((id, seq), is, refl)

-- a read of the version is one of the history
pub read_as : (honest : Type 0) (board : TableId) (h : Held) (at : Option ℕ) (seq : ℕ) (user : UserKey) (v : Levels) (value : Option (List ℕ)) → IsLawfulState honest board h → v ≡ h.slots.version
    → IsSequence h at seq → honest → value ≡ answer (all_entries (files v)) user seq → value ≡ answer h.history user seq
read_as honest board h at seq user v value l same s y is =
    is ∙ (ap (λ (w : Levels). answer (all_entries (files w)) user seq) same ∙ (l.agrees y).reads user seq (promised h at seq s))
