-- What a change of the current version leaves of the law of a state.
use Rattle.std.proofs.Common.{◌≡◌, ℕ, suc, ◌+◌, ◌≤◌, Bool, true, false, Option, Some, List, refl, sym, ◌∙◌, ap, subst, inl, inr, arith}
use Rattle.std.specs.Prelude.{◌⊎◌, MatchBool, Result, Ok, Err, IfErr, OnErr, slice_get, slice_set, if◌then◌else◌}
use Rattle.std.proofs.lemmas.Bool.{cases_eq}
use Rattle.atomic_table.specs.Seated.{TableId}
use Rattle.lsm_codec.specs.Lists.{Has}
use Rattle.lsm_codec.specs.Entries.{Entry}
use Rattle.lsm_model.specs.Files.{File, IsLawful}
use Rattle.lsm_model.proofs.CallerLemmas.{has_all}
use Rattle.lsm_shelf.specs.Told.{Told}
use Rattle.lsm_table.specs.Registry.{Table}
use Rattle.lsm_version.specs.Changes.{changed}
use Rattle.lsm_version.specs.Versions.{IsSound, IsWhole, Levels, files, numbers_in}
use Rattle.lsm_model.specs.Law.{Law}
use Rattle.lsm_model.specs.Plain.{Plain, Spends}
use Rattle.lsm_model.specs.Runs.{Agrees, Spend}
use Rattle.lsm_slots.specs.Slots.{Epoch, Looked, Published, Slotted, numbers_held}
use Rattle.lsm_slots.proofs.CallerLemmas.{set_else, set_found}
use Rattle.lsm_live.specs.Booked.{Booked, lives_of}
use Rattle.lsm_journal.specs.HeldManifest.{HeldManifest, is_at_limit}
use Rattle.lsm_journal.specs.Recorded.{IsRecorded}
use Rattle.lsm_journal.specs.Difference.{Difference, changed_by, deleted_numbers}
use Rattle.lsm_journal.specs.Sending.{Grows, RollsOver, Sends}
use Rattle.lsm_journal.specs.Writing.{change_edit}
use Rattle.lsm_journal.proofs.CallerLemmas.{later}
use Rattle.lsm_state.specs.Held.{HasInputs, Held, IsLawfulState, plain}
use Rattle.lsm_state.specs.Changing.{IsChangeRefusal, live_after, next_spent, plain_after}
use Rattle.lsm_state.specs.declared.state_fault.StateFault.{StateFault}
use Rattle.lsm_state.specs.declared.state_fault.StateFault.TheVariants.{OutOfMemory, Shelf, Read, BadLevel, EmptyBatch, KeyOrder, TooLarge, LevelZeroFull, SequencesSpent, Halted, UnknownSnapshot, Conflict, UnknownTicket, NumbersSpent, Stale, SlotsHeld, VersionsSpent, PinsSpent}
use Rattle.lsm_state.proofs.Numbers.{held_named, map_has, named_held, IsNamed}
use Rattle.lsm_state.proofs.StateLaws.{agreed, stepped}

-- a change of files is one of sound versions (a law of versions)
abbrev pub ChangesAreSound : Type 0
ChangesAreSound = (deleted : List ℕ) (added : List (ℕ × Table)) (pointer : Option (ℕ × List ℕ)) (last : ℕ) (v : Levels) → IsSound v
    → ((n : ℕ) (t : Table) → Has added (n, t) → IsWhole t) → IsLawful (files (changed deleted added pointer last v))
    → ((F : File) (e : Entry) → Has (files (changed deleted added pointer last v)) F → Has F.entries e → e.seq ≤ last)
    → IsSound (changed deleted added pointer last v)

pub last_after : (d : Difference) (v : Levels) → (changed_by d v).last ≡ d.last
unfolding changed
last_after d v = refl

-- the version after a change is sound
pub sound_after : ChangesAreSound → (honest : Type 0) (h : Held) (d : Difference) (out : Option ℕ) → (honest → IsSound h.slots.version)
    → (honest → (n : ℕ) (t : Table) → Has d.added (n, t) → IsWhole t) → Law honest (plain_after h d out) → honest → IsSound (changed_by d h.slots.version)
sound_after law honest h d out sound whole l fair =
    let m = l.meaning fair in
    law (deleted_numbers d) d.added d.pointer d.last h.slots.version (sound fair) (whole fair) m.lawful (λ F e hF he. m.reached e (has_all (files (changed_by d h.slots.version)) F e hF he))

-- ---- numbers

-- a number of a version in a slot after a publication is one of the new version, or was there before
pub published_numbers : (old new : Slotted) (w : Levels) (n : ℕ) → Published old new w → Has (numbers_held new.epochs) n → Has (numbers_in w) n ⊎ Has (numbers_held old.epochs) n
published_numbers old new w n p h = go (held_named new.epochs n h)
  where
    after : Option Epoch
    after = Some record { id = suc old.board.knows.id; version = w; pins = 0 }

    go : IsNamed new.epochs n → Has (numbers_in w) n ⊎ Has (numbers_held old.epochs) n
    go r = (let had : slice_get (slice_set old.epochs p.slot after) r.slot ≡ Some (Some r.epoch) = ap (λ (es : List (Option Epoch)). slice_get es r.slot) (sym p.epochs) ∙ r.had in elim (cases_eq r.slot p.slot) [
      | inl same ↦ (
          let here : slice_get (slice_set old.epochs p.slot after) p.slot ≡ Some (Some r.epoch) = subst (λ i. slice_get (slice_set old.epochs p.slot after) i ≡ Some (Some r.epoch)) same had in
          let both : Some after ≡ Some (Some r.epoch) = sym (set_found old.epochs p.slot after (Some r.epoch) here) ∙ here in
          let is : record { id = suc old.board.knows.id; version = w; pins = 0 } ≡ r.epoch = cc in
          inl (subst (λ (e : Epoch). Has (numbers_in e.version) n) (sym is) r.number))
      | inr other ↦ inr (named_held old.epochs r.slot n r.epoch (sym (set_else old.epochs p.slot r.slot after other) ∙ had) r.number)
    ])

-- ---- the law

-- a greater next number, as a refused call or a new manifest spends one
spent_law : (honest : Type 0) (s : Plain) (next : ℕ) → Law honest s → s.next ≤ next → Law honest (record s { next = next })
spent_law honest s next l le = stepped honest s Spend (record s { next = next }) l (next, le, refl)

pub lawful_spent : (honest : Type 0) (board : TableId) (h : Held) (next : ℕ) (halted : Bool) → IsLawfulState honest board h → h.halted ≡ false → h.next ≤ next
    → IsLawfulState honest board (record h { next = next; halted = halted })
lawful_spent honest board h next halted l going le = record {
  law = spent_law honest (plain h) next l.law le;
  journaled = (l.journaled.0, later l.journaled.0 h.journal h.slots.version h.next next l.journaled.1 le, λ e. l.journaled.2 going);
  below = λ n k. (let lt = l.below n k in omega arith);
  pinners = l.pinners;
  fits = l.fits;
  inputs = l.inputs;
  agrees = agreed honest (plain h) Spend (record (plain h) { next = next }) h.history l.law (next, le, refl) l.agrees;
}

pub spent_rises : (h : Held) → h.next ≤ next_spent h
spent_rises h = go (is_at_limit h.journal)
  where
    go : (b : Bool) → h.next ≤ (if b then h.next + 1 else h.next)
    go true = omega arith
    go false = omega arith

-- looks change nothing of the plain machine
pub looked_plain : (h : Held) (s : Slotted) → Looked h.slots s → plain (record h { slots = s }) ≡ plain h
looked_plain h s k = ap (λ (v : Levels). let t : Plain = record (plain h) { files = files v; last = v.last } in t) k.version

-- a refused change spends the number of a new manifest at most
pub change_spends : (x y : Held) (e : StateFault) (was is : Told) → IsChangeRefusal x y e was is → Spends (plain x) (plain y)
change_spends x y OutOfMemory was is r = (x.next, omega arith, ap plain r.0)
change_spends x y (Shelf fault) was is r = (next_spent x, spent_rises x, ap plain r.0)
change_spends x y (Read fault) was is r = absurd r
change_spends x y (BadLevel level) was is r = absurd r
change_spends x y EmptyBatch was is r = absurd r
change_spends x y (KeyOrder place) was is r = absurd r
change_spends x y TooLarge was is r = absurd r
change_spends x y LevelZeroFull was is r = absurd r
change_spends x y SequencesSpent was is r = absurd r
change_spends x y Halted was is r = absurd r
change_spends x y (UnknownSnapshot id) was is r = absurd r
change_spends x y (Conflict ticket) was is r = absurd r
change_spends x y (UnknownTicket ticket) was is r = absurd r
change_spends x y NumbersSpent was is r = absurd r
change_spends x y Stale was is r = absurd r
change_spends x y SlotsHeld was is r = absurd r
change_spends x y VersionsSpent was is r = absurd r
change_spends x y PinsSpent was is r = absurd r

pub on_err_from : {T E P : Type 0} (r : Result T E) (Q : E → Type 0) → ((e : E) → Q e → P) → IfErr r Q → OnErr r P
on_err_from (Ok v) Q f h = tt
on_err_from (Err e) Q f h = f e h

pub next_rises : (d : Difference) (w : Levels) (next after : ℕ) (old new : HeldManifest) (was is : Told) → Sends d w next after old new was is → next ≤ after
next_rises d w next after old new was is s = go (is_at_limit old) s
  where
    go : (b : Bool) → MatchBool b ((after ≡ next + 1) × RollsOver w next old new was is) ((after ≡ next) × Grows (change_edit old d next) old new was is) → next ≤ after
    go true x = (let e = x.0 in omega arith)
    go false x = (let e = x.0 in omega arith)

plain_is : (h : Held) (d : Difference) (out : Option ℕ) (s : Slotted) (next : ℕ) (live : List Booked) (j : HeldManifest) → s.version ≡ changed_by d h.slots.version → live ≡ live_after out h.live
    → plain (record h { slots = s; next = next; live = live; journal = j }) ≡ record (plain_after h d out) { next = next }
plain_is h d out s next live j version is =
    let p : Plain = plain_after h d out in
    ap (λ (v : Levels). record p { files = files v; last = v.last; next = next; live = lives_of live }) version
    ∙ (ap (λ (n : ℕ). record p { files = files (changed_by d h.slots.version); last = n; next = next; live = lives_of live }) (last_after d h.slots.version)
    ∙ ap (λ (l : List Booked). record p { next = next; live = lives_of l }) is)

pub lawful_changed : (honest : Type 0) (board : TableId) (h : Held) (d : Difference) (out : Option ℕ) (s : Slotted) (next : ℕ) (live : List Booked) (j : HeldManifest) (es : List Entry)
    → IsLawfulState honest board h → Law honest (plain_after h d out) → Published h.slots s (changed_by d h.slots.version) → live ≡ live_after out h.live
    → IsRecorded 0 j (changed_by d h.slots.version) next → h.next ≤ next → ((b : Booked) → Has (live_after out h.live) b → HasInputs (changed_by d h.slots.version) b.work)
    → (honest → Agrees (plain_after h d out) es) → IsLawfulState honest board (record h { slots = s; next = next; live = live; journal = j; history = es })
lawful_changed honest board h d out s next live j es l after p is recorded le inputs agrees = record {
  law = subst (λ (q : Plain). Law honest q) (sym (plain_is h d out s next live j p.version_is is)) (spent_law honest (plain_after h d out) next after le);
  journaled = (0, subst (λ (v : Levels). IsRecorded 0 j v next) (sym p.version_is) recorded, λ e. refl);
  below = λ n k. elim (published_numbers h.slots s (changed_by d h.slots.version) n p k) [
    | inl new ↦ (let f = map_has (λ (F : File). F.number) (files (changed_by d h.slots.version)) n new in let lt = after.books.below_next f.0 f.1 in let e = f.2 in omega arith)
    | inr old ↦ (let lt = l.below n old in omega arith)
  ];
  pinners = l.pinners;
  fits = l.fits;
  inputs = λ b k. subst (λ (v : Levels). HasInputs v b.work) (sym p.version_is) (inputs b (subst (λ (bs : List Booked). Has bs b) is k));
  agrees = λ y. subst (λ (q : Plain). Agrees q es) (sym (plain_is h d out s next live j p.version_is is))
      (agreed honest (plain_after h d out) Spend (record (plain_after h d out) { next = next }) es after (next, le, refl) agrees y);
}
