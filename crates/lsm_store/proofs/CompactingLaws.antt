-- What workers leave of a state.
use Rattle.std.proofs.Common.{◌≡◌, ℕ, suc, ◌+◌, ◌==◌, if◌then◌else◌, Bool, true, false, Option, Some, None, List, [], ◌∷◌, refl, sym, ap, ◌∙◌, inl, inr, arith, subst}
use Rattle.std.specs.Prelude.{◌⊎◌, slice_get, slice_set, sum_by}
use Rattle.std.proofs.lemmas.Bool.{cases_eq}
use Rattle.std.specs.Option.{option_map}
use Rattle.std.proofs.Math.Logic.{∥∥₁_map}
use Rattle.std.proofs.lemmas.List.Sums.{sum_by-cons, sum_by-set}
use Rattle.std.proofs.lemmas.Option.{slice_get_within, get_or_from_slice_get}
use Rattle.lsm_model.specs.Jobs.{Job}
use Rattle.lsm_model.specs.Plans.{Plan}
use Rattle.lsm_model.specs.Plain.{Cancels, Draws, Reserves, Spends}
use Rattle.lsm_model.specs.Runs.{Event, Run, Cancel, Draw, Gather, Install, Reserve, Spend}
use Rattle.lsm_codec.specs.Lists.{Has}
use Rattle.lsm_version.specs.Versions.{Levels, files}
use Rattle.lsm_version.specs.Changes.{changed}
use Rattle.lsm_journal.specs.Difference.{Difference, changed_by}
use Rattle.lsm_model.specs.Files.{all_entries}
use Rattle.lsm_codec.specs.Entries.{answer}
use Rattle.lsm_slots.specs.Slots.{Epoch, HasEpoch, Slotted, Looked, Published, current_id}
use Rattle.lsm_slots.proofs.CallerLemmas.{set_else, set_found}
use Rattle.lsm_shelf.specs.Told.{Told}
use Rattle.lsm_live.specs.Booked.{booked, without}
use Rattle.lsm_merge.specs.Work.{Done, Work}
use Rattle.lsm_state.specs.Changing.{IsChangeRefusal, ChangesVersion}
use Rattle.lsm_state.specs.Gathering.{FailsToBringIn, FailsToMerge, Gathers, IsGathering, IsGatherRefusal, IsRefusedIn}
use Rattle.lsm_state.specs.Held.{Held, plain}
use Rattle.lsm_state.specs.Ingesting.{with_number, with_slots}
use Rattle.lsm_state.specs.Installing.{Installed, IsInstallRefusal, IsInstalling, IsRefusedLater, SameAnswers}
use Rattle.lsm_state.specs.Reserving.{reserved}
use Rattle.lsm_state.specs.declared.gather_fault.GatherFault.{GatherFault}
use Rattle.lsm_state.specs.declared.gather_fault.GatherFault.TheVariants as gather
use Rattle.lsm_state.specs.declared.state_fault.StateFault.{StateFault}
use Rattle.lsm_state.specs.declared.state_fault.StateFault.TheVariants.{OutOfMemory, Shelf, Read, BadLevel, EmptyBatch, KeyOrder, TooLarge, LevelZeroFull, SequencesSpent, Halted, UnknownSnapshot, Conflict, UnknownTicket, NumbersSpent, Stale, SlotsHeld, VersionsSpent, PinsSpent}
use Rattle.lsm_store.specs.Compacting.{AddsCurrentAlone, IsAsFound, IsCompactingStep, IsKeptByCompaction, IsOfWorkers, installs_in, pins_in, pins_of}

-- ---- pins

pub same_sum : {X : Type 0} (f : X → ℕ) (xs ys : List X) → ((i : ℕ) → option_map f (slice_get xs i) ≡ option_map f (slice_get ys i)) → sum_by f xs ≡ sum_by f ys
same_sum f [] [] same = refl
same_sum f [] (y ∷ ys) same = (let d : None ≡ Some (f y) = same 0 in cc)
same_sum f (x ∷ xs) [] same = (let d : Some (f x) ≡ None = same 0 in cc)
same_sum f (x ∷ xs) (y ∷ ys) same =
    let first : Some (f x) ≡ Some (f y) = same 0 in
    let here : f x ≡ f y = cc in
    let rest = same_sum f xs ys (λ i. same (suc i)) in
    omega (arith, sum_by-cons f x xs, sum_by-cons f y ys)

none_of : (b : Bool) (n : ℕ) → n ≡ 0 → (if b then n else 0) ≡ 0
none_of true n e = e
none_of false n e = refl

no_pins : (e : Epoch) (id : ℕ) → e.pins ≡ 0 → pins_in id (Some e) ≡ 0
no_pins e id none = none_of (e.id == id) e.pins none

-- looks free no slot whose version is pinned under the lock
pub pins_looked : (old new : Slotted) → Looked old new → (id : ℕ) → pins_of new id ≡ pins_of old id
pins_looked old new looked id = same_sum (pins_in id) new.epochs old.epochs (λ i. elim (looked.each i) [
  | inl e ↦ ap (option_map (pins_in id)) e
  | inr f ↦ ap (option_map (pins_in id)) f.free ∙ sym (ap (option_map (pins_in id)) f.had ∙ ap Some (no_pins f.epoch id f.unpinned))
])

-- a version that was just published has no pin, and came into a slot without a version
pub pins_published : (old new : Slotted) (v : Levels) → Published old new v → (id : ℕ) → pins_of new id ≡ pins_of old id
pins_published old new v p id =
    let e : Epoch = record { id = suc (current_id old); version = v; pins = 0 } in
    let put = sum_by-set (pins_in id) old.epochs p.slot (Some e) None (slice_get_within old.epochs p.slot None p.was_free) in
    let was = ap (pins_in id) (get_or_from_slice_get old.epochs p.slot None None p.was_free) in
    let is = no_pins e id refl in
    ap (sum_by (pins_in id)) p.epochs ∙ omega (arith, put, was, is)

-- ---- versions in slots

-- what a slot has after looks it had before
looked_had : (old new : Slotted) → Looked old new → (slot : ℕ) (e : Epoch) → HasEpoch new slot e → HasEpoch old slot e
looked_had old new l slot e had = elim (l.each slot) [
  | inl same ↦ sym same ∙ had
  | inr freed ↦ (let both : Some None ≡ Some (Some e) = sym freed.free ∙ had in cc)
]

pub adds_none : (old new : Slotted) → new ≡ old → AddsCurrentAlone old new
adds_none old new e slot f had = inl (slot, f, subst (λ (s : Slotted). HasEpoch s slot f) e had, refl)

-- looks only free slots
pub adds_looked : (old new : Slotted) → Looked old new → AddsCurrentAlone old new
adds_looked old new l slot e had = inl (slot, e, looked_had old new l slot e had, refl)

in_place : {X : Type 0} (xs : List (Option X)) (at slot : ℕ) (x y : X) → slice_get (slice_set xs at (Some x)) slot ≡ Some (Some y) → (slice_get xs slot ≡ Some (Some y)) ⊎ (x ≡ y)
in_place xs at slot x y e = elim (cases_eq slot at) [
  | inl here ↦ (let is : Some (Some y) ≡ Some (Some x) = sym (subst (λ i. slice_get (slice_set xs at (Some x)) i ≡ Some (Some y)) here e) ∙ set_found xs at (Some x) (Some y) (subst (λ i. slice_get (slice_set xs at (Some x)) i ≡ Some (Some y)) here e) in inr (cc))
  | inr other ↦ inl (sym (set_else xs at slot (Some x) other) ∙ e)
]

-- behind looks a version came into a slot, and is current
pub adds_published : (old mid new : Slotted) (v : Levels) → Looked old mid → Published mid new v → AddsCurrentAlone old new
adds_published old mid new v l p slot e had =
    let here : Epoch = record { id = suc (current_id mid); version = v; pins = 0 } in
    elim (in_place mid.epochs p.slot slot here e (subst (λ (es : List (Option Epoch)). slice_get es slot ≡ Some (Some e)) p.epochs had)) [
      | inl before ↦ inl (slot, e, looked_had old mid l slot e before, refl)
      | inr is ↦ inr (sym (ap (λ (x : Epoch). x.version) is) ∙ sym p.version_is)
    ]

-- ---- what was found stays

same_answers : (was is : Held) → is.slots.version ≡ was.slots.version → SameAnswers was is
same_answers was is e k q r = ap (λ (v : Levels). answer (all_entries (files v)) k q) e

pub found_by_parts : (Honest : Type 0) (was is : Held) → is.slots.version ≡ was.slots.version → is.slots.epochs ≡ was.slots.epochs → is.history ≡ was.history
    → is.snapshots ≡ was.snapshots → IsAsFound Honest was is
found_by_parts Honest was is version epochs history snapshots = record {
  history = history;
  last = ap (λ (v : Levels). v.last) version;
  snapshots = snapshots;
  pins = λ id. ap (λ (es : List (Option Epoch)). sum_by (pins_in id) es) epochs;
  answers = λ h. same_answers was is version;
}

-- where slots were looked at, and nothing else was done, so it stays
pub found_looked : (Honest : Type 0) (was is : Held) → Looked was.slots is.slots → is ≡ record was { slots = is.slots } → IsAsFound Honest was is
found_looked Honest was is looked e = record {
  history = ap (λ (h : Held). h.history) e;
  last = ap (λ (v : Levels). v.last) looked.version;
  snapshots = ap (λ (h : Held). h.snapshots) e;
  pins = λ id. pins_looked was.slots is.slots looked id;
  answers = λ h. same_answers was is looked.version;
}

-- ---- steps

one_event : (e : Event) → IsOfWorkers e → (v : Event) → Has (e ∷ []) v → IsOfWorkers v
one_event e w v h = elim h [ inl s ↦ subst IsOfWorkers s w | inr t ↦ absurd t ]

-- what a step leaves that changes no slot, where `mid` spells it
abbrev Beside : Held → Held → Type 0
Beside was mid = (mid.slots ≡ was.slots) × (mid.history ≡ was.history) × (mid.snapshots ≡ was.snapshots) × (mid.options ≡ was.options) × (mid.pinners ≡ was.pinners)

-- where the slots stay, and nothing was installed, the current id stays
same_id : (was is : Held) (events : List Event) → is.slots ≡ was.slots → installs_in events ≡ 0 → current_id is.slots ≡ current_id was.slots + installs_in events
same_id was is events slots none = let same : current_id is.slots ≡ current_id was.slots = ap current_id slots in omega (arith, same, none)

step_beside : (Honest : Type 0) (was is mid : Held) (events : List Event) → is ≡ mid → Beside was mid → ((e : Event) → Has events e → IsOfWorkers e)
    → Run Honest (plain was) events (plain is) → installs_in events ≡ 0 → IsCompactingStep Honest was is
step_beside Honest was is mid events e b only run none = record {
  run = record { events = events; only = only; run = run; ids = same_id was is events (ap (λ (h : Held). h.slots) e ∙ b.0) none };
  options = ap (λ (h : Held). h.options) e ∙ b.3;
  pinners = ap (λ (h : Held). h.pinners) e ∙ b.4;
  found = found_by_parts Honest was is (ap (λ (h : Held). h.slots.version) e ∙ ap (λ (s : Slotted). s.version) b.0) (ap (λ (h : Held). h.slots.epochs) e ∙ ap (λ (s : Slotted). s.epochs) b.0)
      (ap (λ (h : Held). h.history) e ∙ b.1) (ap (λ (h : Held). h.snapshots) e ∙ b.2);
  slots = adds_none was.slots is.slots (ap (λ (h : Held). h.slots) e ∙ b.0);
}

pub step_none : (Honest : Type 0) (was is : Held) → is ≡ was → IsCompactingStep Honest was is
step_none Honest was is e = step_beside Honest was is was [] e (refl, refl, refl, refl, refl) (λ v h. absurd h) (ap plain e) refl

pub step_reserved : (Honest : Type 0) (was is : Held) (w : Work) (plan : Plan) (job : Job) → is ≡ reserved w was → Reserves Honest (plain was) plan job (plain is)
    → IsCompactingStep Honest was is
step_reserved Honest was is w plan job e event = step_beside Honest was is (reserved w was) (Reserve plan job ∷ []) e (refl, refl, refl, refl, refl) (one_event _ tt) (plain is, event, refl) refl

pub step_cancelled : (Honest : Type 0) (was is : Held) (ticket : ℕ) → is ≡ record was { live = without ticket was.live } → Cancels (plain was) ticket (plain is) → IsCompactingStep Honest was is
step_cancelled Honest was is ticket e event =
    step_beside Honest was is (record was { live = without ticket was.live }) (Cancel ticket ∷ []) e (refl, refl, refl, refl, refl) (one_event _ tt) (plain is, event, refl) refl

pub step_drawn : (Honest : Type 0) (was is : Held) (ticket : ℕ) → is ≡ record was { live = booked ticket was.next was.live; next = suc was.next } → Draws (plain was) ticket (plain is) → IsCompactingStep Honest was is
step_drawn Honest was is ticket e event =
    step_beside Honest was is (record was { live = booked ticket was.next was.live; next = suc was.next }) (Draw ticket ∷ []) e (refl, refl, refl, refl, refl) (one_event _ tt) (plain is, event, refl) refl

-- ---- installs

two_events : (a b : Event) → IsOfWorkers a → IsOfWorkers b → (v : Event) → Has (a ∷ b ∷ []) v → IsOfWorkers v
two_events a b x y v h = elim h [ inl s ↦ subst IsOfWorkers s x | inr t ↦ one_event b y v t ]

last_after : (d : Difference) (v : Levels) → (changed_by d v).last ≡ d.last
unfolding changed
last_after d v = refl

pub step_installed : (Honest : Type 0) (was is : Held) (d : Done) (t u : Told) → Installed was is d t u → (Honest → SameAnswers was is) → IsInstalling Honest was d.work.ticket is → IsCompactingStep Honest was is
step_installed Honest was is d t u i answers event =
    let rest = i.changes.rest in
    record {
      run = record {
        events = Install d.work.ticket ∷ Spend ∷ [];
        only = two_events _ _ tt tt;
        run = event;
        ids = (let sought = i.sought.looked.id in let next = i.changes.published.id in omega (arith, sought, next));
      };
      options = ap (λ (h : Held). h.options) rest;
      pinners = ap (λ (h : Held). h.pinners) rest;
      found = record {
        history = ap (λ (h : Held). h.history) rest;
        last = ap (λ (v : Levels). v.last) i.changes.published.version_is ∙ last_after i.change i.slots.version ∙ i.its.last_is;
        snapshots = ap (λ (h : Held). h.snapshots) rest;
        pins = λ id. pins_published i.slots is.slots _ i.changes.published id ∙ pins_looked was.slots i.slots i.sought.looked id;
        answers = answers;
      };
      slots = adds_published was.slots i.slots is.slots _ i.sought.looked i.changes.published;
    }

-- what a refused install may change: the slots, by looks, the next number, and whether the state is halted
later : (was is : Held) (e : StateFault) (t u : Told) → IsRefusedLater was is e t u
    → (is.history ≡ was.history) × (is.snapshots ≡ was.snapshots) × (is.options ≡ was.options) × (is.pinners ≡ was.pinners)
later was is SlotsHeld t u r = (ap (λ (h : Held). h.history) r.1, ap (λ (h : Held). h.snapshots) r.1, ap (λ (h : Held). h.options) r.1, ap (λ (h : Held). h.pinners) r.1)
later was is VersionsSpent t u r = (ap (λ (h : Held). h.history) r.1, ap (λ (h : Held). h.snapshots) r.1, ap (λ (h : Held). h.options) r.1, ap (λ (h : Held). h.pinners) r.1)
later was is OutOfMemory t u r = (ap (λ (h : Held). h.history) r.0, ap (λ (h : Held). h.snapshots) r.0, ap (λ (h : Held). h.options) r.0, ap (λ (h : Held). h.pinners) r.0)
later was is (Shelf fault) t u r = (ap (λ (h : Held). h.history) r.0, ap (λ (h : Held). h.snapshots) r.0, ap (λ (h : Held). h.options) r.0, ap (λ (h : Held). h.pinners) r.0)
later was is (Read fault) t u r = absurd r
later was is (BadLevel n) t u r = absurd r
later was is EmptyBatch t u r = absurd r
later was is (KeyOrder n) t u r = absurd r
later was is TooLarge t u r = absurd r
later was is LevelZeroFull t u r = absurd r
later was is SequencesSpent t u r = absurd r
later was is Halted t u r = absurd r
later was is (UnknownSnapshot n) t u r = absurd r
later was is (Conflict n) t u r = absurd r
later was is (UnknownTicket n) t u r = absurd r
later was is NumbersSpent t u r = absurd r
later was is Stale t u r = absurd r
later was is PinsSpent t u r = absurd r

pub step_refused : (Honest : Type 0) (was is : Held) (d : Done) (e : StateFault) (t u : Told) → IsInstallRefusal was is d e t u → Spends (plain was) (plain is) → IsCompactingStep Honest was is
step_refused Honest was is d e t u refused event = elim refused [
  | inl once ↦ step_none Honest was is once.1
  | inr r ↦
      let same = later was is e t u r.2 in
      let looked = r.1.looked in
      record {
        run = record { events = Spend ∷ []; only = one_event _ tt; run = (plain is, event, refl); ids = (let same = looked.id in omega (arith, same)) };
        options = same.2;
        pinners = same.3;
        found = record {
          history = same.0;
          last = ap (λ (v : Levels). v.last) looked.version;
          snapshots = same.1;
          pins = λ id. pins_looked was.slots is.slots looked id;
          answers = λ h. same_answers was is looked.version;
        };
        slots = adds_looked was.slots is.slots looked;
      }
]

-- ---- gathers

pub step_gathered : (Honest : Type 0) (was is : Held) (number : ℕ) (t u : Told) → Gathers Honest was is number t u → (Honest → SameAnswers was is) → IsGathering Honest was is
    → IsCompactingStep Honest was is
step_gathered Honest was is number t u g answers event =
    let rest = g.changes.rest in
    record {
      run = record {
        events = Gather ∷ [];
        only = one_event _ tt;
        run = (plain is, event, refl);
        ids = (let sought = g.sought.looked.id in let next = g.changes.published.id in omega (arith, sought, next));
      };
      options = ap (λ (h : Held). h.options) rest;
      pinners = ap (λ (h : Held). h.pinners) rest;
      found = record {
        history = ap (λ (h : Held). h.history) rest;
        last = ap (λ (v : Levels). v.last) g.changes.published.version_is ∙ last_after g.change g.slots.version ∙ g.its.last_is;
        snapshots = ap (λ (h : Held). h.snapshots) rest;
        pins = λ id. pins_published g.slots is.slots _ g.changes.published id ∙ pins_looked was.slots g.slots g.sought.looked id;
        answers = answers;
      };
      slots = adds_published was.slots g.slots is.slots _ g.sought.looked g.changes.published;
    }

-- what a refused gather may change: the slots, by looks, the next number, and whether the state is halted
record Beneath (was is : Held) : Type 0 where
  history : is.history ≡ was.history
  snapshots : is.snapshots ≡ was.snapshots
  options : is.options ≡ was.options
  pinners : is.pinners ≡ was.pinners
  looked : Looked was.slots is.slots

beneath_of : (was is mid : Held) → is ≡ mid → (mid.history ≡ was.history) × (mid.snapshots ≡ was.snapshots) × (mid.options ≡ was.options) × (mid.pinners ≡ was.pinners) → Looked was.slots is.slots → Beneath was is
beneath_of was is mid e b looked = record {
  history = ap (λ (h : Held). h.history) e ∙ b.0;
  snapshots = ap (λ (h : Held). h.snapshots) e ∙ b.1;
  options = ap (λ (h : Held). h.options) e ∙ b.2;
  pinners = ap (λ (h : Held). h.pinners) e ∙ b.3;
  looked = looked;
}

step_beneath : (Honest : Type 0) (was is : Held) → Beneath was is → Spends (plain was) (plain is) → IsCompactingStep Honest was is
step_beneath Honest was is b event = record {
  run = record { events = Spend ∷ []; only = one_event _ tt; run = (plain is, event, refl); ids = (let same = b.looked.id in omega (arith, same)) };
  options = b.options;
  pinners = b.pinners;
  found = record {
    history = b.history;
    last = ap (λ (v : Levels). v.last) b.looked.version;
    snapshots = b.snapshots;
    pins = λ id. pins_looked was.slots is.slots b.looked id;
    answers = λ h. same_answers was is b.looked.version;
  };
  slots = adds_looked was.slots is.slots b.looked;
}

-- a refused change behind a number that was spent
beneath_change : (was is : Held) (e : StateFault) (t u : Told) → Looked was.slots is.slots → IsChangeRefusal (with_number was is.slots) is e t u → Beneath was is
beneath_change was is OutOfMemory t u l r = beneath_of was is (with_number was is.slots) r.0 (refl, refl, refl, refl) l
beneath_change was is (Shelf fault) t u l r = beneath_of was is _ r.0 (refl, refl, refl, refl) l
beneath_change was is (Read fault) t u l r = absurd r
beneath_change was is (BadLevel n) t u l r = absurd r
beneath_change was is EmptyBatch t u l r = absurd r
beneath_change was is (KeyOrder n) t u l r = absurd r
beneath_change was is TooLarge t u l r = absurd r
beneath_change was is LevelZeroFull t u l r = absurd r
beneath_change was is SequencesSpent t u l r = absurd r
beneath_change was is Halted t u l r = absurd r
beneath_change was is (UnknownSnapshot n) t u l r = absurd r
beneath_change was is (Conflict n) t u l r = absurd r
beneath_change was is (UnknownTicket n) t u l r = absurd r
beneath_change was is NumbersSpent t u l r = absurd r
beneath_change was is Stale t u l r = absurd r
beneath_change was is SlotsHeld t u l r = absurd r
beneath_change was is VersionsSpent t u l r = absurd r
beneath_change was is PinsSpent t u l r = absurd r

beneath_in : (Honest : Type 0) (was is : Held) (least : ℕ) (e : GatherFault) (t u : Told) → Looked was.slots is.slots → IsRefusedIn Honest was is least e t u → Beneath was is
beneath_in Honest was is least (gather.State e) t u l (inl merge) = beneath_of was is (with_slots was is.slots) merge.1 (refl, refl, refl, refl) l
beneath_in Honest was is least (gather.State e) t u l (inr change) = beneath_change was is e change.1 u l change.4
beneath_in Honest was is least (gather.Merge e) t u l (inl merge) = beneath_of was is (with_number was is.slots) merge.0 (refl, refl, refl, refl) l
beneath_in Honest was is least (gather.Merge e) t u l (inr change) = absurd change

pub step_ungathered : (Honest : Type 0) (was is : Held) (e : GatherFault) (t u : Told) → IsGatherRefusal Honest was is e t u → Spends (plain was) (plain is) → IsCompactingStep Honest was is
step_ungathered Honest was is e t u (inl once) event = step_none Honest was is once.1
step_ungathered Honest was is (gather.State e) t u (inr (least, may, inl lacks)) event =
    step_beneath Honest was is (beneath_of was is (with_slots was is.slots) lacks.0 (refl, refl, refl, refl) lacks.1.looked) event
step_ungathered Honest was is (gather.Merge e) t u (inr (least, may, inl lacks)) event = absurd lacks
step_ungathered Honest was is e t u (inr (least, may, inr (sought, slot, later))) event = step_beneath Honest was is (beneath_in Honest was is least e t u sought.looked later) event

-- ---- the fact

-- a fact that compaction keeps holds still
pub still : (Honest : Type 0) (keeps : Held → Type 0) → IsKeptByCompaction Honest keeps → (was is : Held) → IsCompactingStep Honest was is → ∥ keeps was ∥₁ → ∥ keeps is ∥₁
still Honest keeps kept was is step t = ∥∥₁_map t (kept was is step)
