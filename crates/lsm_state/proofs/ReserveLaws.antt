-- What a reservation leaves of the law of a state.
use Rattle.std.proofs.Common.{◌≡◌, ℕ, suc, ◌-◌, ◌^◌, ◌<◌, ◌≤◌, Bool, Option, None, Some, true, false, List, [], ◌∷◌, ◌++◌, length, refl, sym, ◌∙◌, ap, subst, inl, inr, arith, ◌⊎◌, ◌↔◌}
use Rattle.std.specs.Prelude.{Result, Ok, Err, MatchOption, IfErr, IfSome, IsErrAnd}
use Rattle.std.proofs.lemmas.Bool.{both_ways}
use Rattle.atomic_table.specs.Seated.{TableId}
use Rattle.lsm_codec.specs.Keys.{UserKey}
use Rattle.lsm_codec.specs.Lists.{Has}
use Rattle.lsm_codec.proofs.CallerLemmas.{has_cases}
use Rattle.lsm_table.specs.Registry.{Table}
use Rattle.lsm_model.specs.Files.{File, all_entries}
use Rattle.lsm_model.specs.Jobs.{Conflicts, Job}
use Rattle.lsm_model.specs.Law.{Law}
use Rattle.lsm_model.specs.Plain.{Live, Plain}
use Rattle.lsm_model.specs.Runs.{Reserve}
use Rattle.lsm_version.specs.FileNumbers.{AreDistinct}
use Rattle.lsm_version.specs.Versions.{AreInOrder, IsSound, IsWhole, Levels, file_of, files, numbers_in}
use Rattle.lsm_picker.specs.Choice.{HasNoChoice, IsChoice}
use Rattle.lsm_picker.specs.Gathering as picker
use Rattle.lsm_picker.specs.Joining.{IsJoined, Span}
use Rattle.lsm_picker.specs.Outermost.{HasNoOutermost, IsOverOutermost}
use Rattle.lsm_picker.specs.Reservations.{IsClear, IsLeastConflict, Reserved, conflicts, reserved_of}
use Rattle.lsm_picker.specs.TablePlans.{IsPlanFrom, StandsIn, TablePlan, files_over, plan_of}
use Rattle.lsm_picker.specs.TablePlans as planned
use Rattle.lsm_merge.specs.InputOrder.{HasTwins, StandInOrder}
use Rattle.lsm_merge.specs.Work.{MovesOne, Work, job_of}
use Rattle.lsm_live.specs.Booked.{Booked, live_of, lives_of, new_booked}
use Rattle.lsm_live.specs.Planned.{IsWorkOf}
use Rattle.lsm_live.specs.Reserving.{reserved_jobs}
use Rattle.lsm_live.proofs.CallerLemmas.{live_has, live_says, lives_added, reserved_has}
use Rattle.lsm_state.specs.Held.{HasInputs, Held, IsLawfulState, plain}
use Rattle.lsm_state.specs.Reserving.{HasOrderedInputs, IsChosen, IsClosedPlan, IsOfMoment}
use Rattle.lsm_state.specs.Reserving.{IsPlanAt, IsRangePlan, IsRangeRefusal, IsReserveRefusal}
use Rattle.lsm_state.specs.Reserving.{IsReserving, plan_in, reserved, GoesBefore, HasNoneAtOnce}
use Rattle.lsm_state.specs.Reserving.{GoesDown, HasNoJoining, HasNoNext, IsReady, NoneGoesBefore}
use Rattle.lsm_state.specs.Reserving.{NoneGoesDown, WaitsForOthers, IsNext}
use Rattle.lsm_state.specs.Reserving.{IsNextRefusal, IsPlanRefusal}
use Rattle.lsm_state.specs.declared.state_fault.StateFault.{StateFault}
use Rattle.lsm_state.specs.declared.state_fault.StateFault.TheVariants.{OutOfMemory, Shelf, Read, BadLevel, EmptyBatch, KeyOrder, TooLarge, LevelZeroFull, SequencesSpent, Halted, UnknownSnapshot, Conflict, UnknownTicket, NumbersSpent, Stale, SlotsHeld, VersionsSpent, PinsSpent}
use Rattle.lsm_state.proofs.StateLaws.{agreed, stepped}

-- what the laws of plans say
abbrev pub InputsStand : Type 0
InputsStand = (v : Levels) (p : TablePlan) (ticket : ℕ) (floor : ℕ) (ranges : List (UserKey × UserKey)) (is_move : Bool) (F : File) → StandsIn v p
    → Has (planned.job_of p ticket floor ranges is_move).inputs F → Has (files v) F × ((F.level ≡ p.level) ⊎ (F.level ≡ suc p.level))

abbrev pub ConflictsAgree : Type 0
ConflictsAgree = (p : TablePlan) (ticket : ℕ) (floor : ℕ) (ranges : List (UserKey × UserKey)) (is_move : Bool) (other : Job)
    → ((conflicts p (reserved_of other) ≡ true) ↔ Conflicts (planned.job_of p ticket floor ranges is_move) other)

abbrev pub PlansStandInOrder : Type 0
PlansStandInOrder = (v : Levels) (starts : List File) (p : TablePlan) (w : Work) → IsSound v → AreInOrder v.tables → AreDistinct (numbers_in v) → IsPlanFrom v (Has starts) p → IsWorkOf p w
    → StandInOrder w

abbrev pub PlansHaveNoTwins : Type 0
PlansHaveNoTwins = (v : Levels) (starts : List File) (p : TablePlan) (w : Work) → IsSound v → AreDistinct (numbers_in v) → IsPlanFrom v (Has starts) p → IsWorkOf p w
    → HasTwins (all_entries (job_of w).inputs) → ⊥

-- ---- a job of a plan is an event of the machine

clear_of : ConflictsAgree → (w : Work) (live : List Booked) → IsClear (plan_in w) (reserved_jobs live) → (a : Live) → Has (lives_of live) a → Conflicts (job_of w) a.job → ⊥
clear_of agree w live clear a h k =
    let b = live_says live a h in
    let k2 : Conflicts (job_of w) (job_of b.0.work) = subst (λ (x : Live). Conflicts (job_of w) x.job) (sym b.2) k in
    both_ways (conflicts (plan_in w) (reserved_of (job_of b.0.work))) (clear (reserved_of (job_of b.0.work)) (reserved_has live b.0 b.1))
    ((agree (plan_in w) w.ticket w.floor w.ranges w.is_move (job_of b.0.work)).1 k2)

pub reserves : (honest : Type 0) (h : Held) (w : Work) → InputsStand → ConflictsAgree → IsOfMoment h w → StandsIn h.slots.version (plan_in w) → IsClear (plan_in w) (reserved_jobs h.live)
    → (honest → IsClosedPlan h (plan_in w)) → IsReserving honest h w (reserved w h)
reserves honest h w stand agree m s clear closed = record {
  is = ap (λ (ls : List Live). let t : Plain = record (plain h) { live = ls; next_ticket = suc h.next_ticket } in t) (lives_added h.live w);
  is_job = record { level = refl; inputs = refl; low = refl; high = refl; ranges = (m.ranges).all; ranges_from = (m.ranges).only };
  inputs = λ F k. (stand h.slots.version (plan_in w) w.ticket w.floor w.ranges w.is_move F s k).0;
  levels = λ F k. (stand h.slots.version (plan_in w) w.ticket w.floor w.ranges w.is_move F s k).1;
  floor = m.floor;
  ticket = m.ticket;
  clear = λ a k. clear_of agree w h.live clear a k;
  closed = λ y. (let c = closed y in (c.0, (c.1).closed));
}

-- ---- the law afterwards

one_more : (live : List Booked) (w : Work) (b : Booked) → Has (live ++ new_booked w ∷ []) b → Has live b ⊎ (new_booked w ≡ b)
one_more live w b h = elim (has_cases live (new_booked w ∷ []) b h) [ inl a ↦ inl a | inr c ↦ elim c [ inl e ↦ inr e | inr none ↦ absurd none ] ]

pub lawful_reserved : (honest : Type 0) (board : TableId) (h : Held) (w : Work) → IsLawfulState honest board h → IsReserving honest h w (reserved w h) → StandsIn h.slots.version (plan_in w)
    → IsLawfulState honest board (reserved w h)
lawful_reserved honest board h w l step s = record {
  law = stepped honest (plain h) (Reserve (plan_of (plan_in w)) (job_of w)) (plain (reserved w h)) l.law step;
  journaled = l.journaled;
  below = l.below;
  pinners = l.pinners;
  fits = l.fits;
  inputs = λ b k. elim (one_more h.live w b k) [
    | inl old ↦ l.inputs b old
    | inr new ↦ subst (λ (c : Booked). HasInputs h.slots.version c.work) new record { upper = s.upper; lower = s.lower }
  ];
  agrees = agreed honest (plain h) (Reserve (plan_of (plan_in w)) (job_of w)) (plain (reserved w h)) h.history l.law step l.agrees;
}

-- the same of the parts, as they were made
pub lawful_booked : (honest : Type 0) (board : TableId) (h : Held) (w : Work) (live : List Booked) (next : ℕ) → live ≡ h.live ++ new_booked w ∷ [] → next ≡ suc h.next_ticket
    → IsLawfulState honest board (reserved w h) → IsLawfulState honest board (record h { live = live; next_ticket = next })
lawful_booked honest board h w live next a b l =
    subst (λ (bs : List Booked). IsLawfulState honest board (record h { live = bs; next_ticket = next })) (sym a)
    (subst (λ (n : ℕ). IsLawfulState honest board (record h { live = h.live ++ new_booked w ∷ []; next_ticket = n })) (sym b) l)

pub booked_is : (h : Held) (w : Work) (live : List Booked) (next : ℕ) → live ≡ h.live ++ new_booked w ∷ [] → next ≡ suc h.next_ticket
    → record h { live = live; next_ticket = next } ≡ reserved w h
booked_is h w live next a b =
    ap (λ (bs : List Booked). let t : Held = record h { live = bs; next_ticket = next } in t) a
    ∙ ap (λ (n : ℕ). let t : Held = record h { live = h.live ++ new_booked w ∷ []; next_ticket = n } in t) b

-- the next ticket is above those of all live jobs
pub newest : (honest : Type 0) (h : Held) → Law honest (plain h) → (b : Booked) → Has h.live b → b.work.ticket < h.next_ticket
newest honest h l b k = (l.books).tickets (live_of b) (live_has h.live b k)

-- ---- a job is made of a plan

one_of : (w : Work) (ts : List Table) → w.upper ≡ ts → length ts ≡ 1 → w.lower ≡ [] → (t : Table) × (w.upper ≡ t ∷ []) × (w.lower ≡ [])
one_of w [] e one none = absurd (omega arith)
one_of w (t ∷ []) e one none = (t, e, none)
one_of w (t ∷ u ∷ ts) e one none = absurd (omega arith)

pub moves_one : (w : Work) (m : Bool) → (m ≡ true → (length w.upper ≡ 1) × (w.lower ≡ [])) → MovesOne w m
moves_one w true h = (let r = h refl in one_of w w.upper refl r.0 r.1)
moves_one w false h = tt

pub whole_parts : (v : Levels) (p : TablePlan) (upper lower : List Table) → upper ≡ p.upper → lower ≡ p.lower → StandsIn v p → IsSound v → (t : Table) → Has (upper ++ lower) t → IsWhole t
whole_parts v p upper lower a b s sound t h = elim (has_cases upper lower t h) [
  | inl up ↦ sound.tables p.level t (s.upper t (subst (λ (ts : List Table). Has ts t) a up))
  | inr down ↦ sound.tables (suc p.level) t (s.lower t (subst (λ (ts : List Table). Has ts t) b down))
]

pub moves_by : (w : Work) (p : TablePlan) (m : Bool) → w.upper ≡ p.upper → w.lower ≡ p.lower → (m ≡ true → (length p.upper ≡ 1) × (p.lower ≡ [])) → MovesOne w m
moves_by w p m a b h = moves_one w m (λ e. (let r = h e in (ap length a ∙ r.0, b ∙ r.1)))

pub booked_reserves : (honest : Type 0) (h : Held) (w : Work) (p : TablePlan) → InputsStand → ConflictsAgree → IsOfMoment h w → plan_in w ≡ p → StandsIn h.slots.version p → IsClear p (reserved_jobs h.live)
    → (honest → IsClosedPlan h p) → IsReserving honest h w (reserved w h)
booked_reserves honest h w p stand agree m same s clear closed =
    reserves honest h w stand agree m (subst (λ (x : TablePlan). StandsIn h.slots.version x) (sym same) s) (subst (λ (x : TablePlan). IsClear x (reserved_jobs h.live)) (sym same) clear)
    (λ y. subst (λ (x : TablePlan). IsClosedPlan h x) (sym same) (closed y))

pub newest_kept : (honest : Type 0) (h : Held) (w kept : Work) → Law honest (plain h) → IsOfMoment h w → kept ≡ w → (b : Booked) → Has h.live b → b.work.ticket < kept.ticket
newest_kept honest h w kept l m same b k = (let lt = newest honest h l b k in let e = m.ticket in let f = ap (λ (x : Work). x.ticket) same in omega arith)

-- the inputs of the job of a closed plan stand in order
pub ordered : PlansStandInOrder → PlansHaveNoTwins → (h : Held) (v : Levels) (p : TablePlan) (w : Work) → v ≡ h.slots.version → IsSound v → AreInOrder v.tables → AreDistinct (numbers_in v)
    → IsClosedPlan h p → IsWorkOf p w → HasOrderedInputs w
ordered in_order single h v p w same sound lines apart closed its =
    let planned : IsPlanFrom v (Has closed.0) p = subst (λ (x : Levels). IsPlanFrom x (Has closed.0) p) (sym same) closed.1 in
    record { order = in_order v closed.0 p w sound lines apart planned its; single = single v closed.0 p w sound apart planned its }

-- ---- plans that were found, and refusals

pub closed_choice : (h : Held) (v : Levels) (rs : List Reserved) (p : TablePlan) → v ≡ h.slots.version → IsChoice v rs p → IsClosedPlan h p
closed_choice h v rs p same k =
    (file_of (k.start).level (k.start).table ∷ [], subst (λ (x : Levels). IsPlanFrom x (Has (file_of (k.start).level (k.start).table ∷ [])) p) same (k.planned).planned)

pub chosen_at : (h : Held) (v : Levels) (rs : List Reserved) (p : TablePlan) → v ≡ h.slots.version → rs ≡ reserved_jobs h.live → IsChoice v rs p → IsChosen h p
chosen_at h v rs p a b k = subst (λ (x : Levels). IsChoice x (reserved_jobs h.live) p) a (subst (λ (x : List Reserved). IsChoice v x p) b k)

pub planned_at : (h : Held) (v : Levels) (level : ℕ) (from to : UserKey) (p : TablePlan) → v ≡ h.slots.version → IsPlanFrom v (Has (files_over v level from to)) p → IsRangePlan h level from to p
planned_at h v level from to p a k = subst (λ (x : Levels). IsPlanFrom x (Has (files_over x level from to)) p) a k

pub refused_choice : (honest : Type 0) (h : Held) (p : TablePlan) (e : StateFault) → h.halted ≡ false → (honest → IsChosen h p) → ((e ≡ NumbersSpent) × (h.next_ticket ≡ 2 ^ 64 - 1)) ⊎ (e ≡ OutOfMemory)
    → IsReserveRefusal honest h e
refused_choice honest h p e going chosen (inl x) = subst (λ (f : StateFault). IsReserveRefusal honest h f) (sym x.0) (going, x.1, λ y. (p, chosen y))
refused_choice honest h p e going chosen (inr x) = subst (λ (f : StateFault). IsReserveRefusal honest h f) (sym x) going

pub refused_range : (honest : Type 0) (h : Held) (level : ℕ) (from to : UserKey) (p : TablePlan) (e : StateFault) → h.halted ≡ false → level ≤ 5 → (honest → IsRangePlan h level from to p) → IsClear p (reserved_jobs h.live) → IsPlanAt h level p
    → ((e ≡ NumbersSpent) × (h.next_ticket ≡ 2 ^ 64 - 1)) ⊎ (e ≡ OutOfMemory) → IsRangeRefusal honest h level from to e
refused_range honest h level from to p e going low planned clear at (inl x) = subst (λ (f : StateFault). IsRangeRefusal honest h level from to f) (sym x.0) (going, low, x.1, (p, planned, clear, at))
refused_range honest h level from to p e going low planned clear at (inr x) = subst (λ (f : StateFault). IsRangeRefusal honest h level from to f) (sym x) (going, low)

pub refused_conflict : (honest : Type 0) (h : Held) (level : ℕ) (from to : UserKey) (p : TablePlan) (rs : List Reserved) (ticket : ℕ) → h.halted ≡ false → level ≤ 5 → (honest → IsRangePlan h level from to p)
    → rs ≡ reserved_jobs h.live → IsLeastConflict p rs ticket → IsPlanAt h level p → IsRangeRefusal honest h level from to (Conflict ticket)
refused_conflict honest h level from to p rs ticket going low planned same k at = (going, low, (p, planned, subst (λ (x : List Reserved). IsLeastConflict p x ticket) same k, at))

pub match_some : {A : Type 0} (o : Option A) (x : A) (P : Type 0) (Q : A → Type 0) → o ≡ Some x → MatchOption o P Q → Q x
match_some {A} o x P Q e m = subst (λ (y : Option A). MatchOption y P Q) e m

pub if_some : {A : Type 0} (o : Option A) (x : A) (Q : A → Type 0) → o ≡ Some x → IfSome o Q → Q x
if_some {A} o x Q e m = subst (λ (y : Option A). IfSome y Q) e m

pub if_err : {A : Type 0} (r : Result A StateFault) (P Q : StateFault → Type 0) → IsErrAnd r P → ((e : StateFault) → P e → Q e) → IfErr r Q
if_err (Ok a) P Q x f = tt
if_err (Err e) P Q x f = f e x

-- ---- what workers reserve

pub plan_refused : (honest : Type 0) (h : Held) (e : StateFault) → IsPlanRefusal h e → IsReserveRefusal honest h e
plan_refused honest h OutOfMemory r = r
plan_refused honest h (Shelf f) r = absurd r
plan_refused honest h (Read f) r = absurd r
plan_refused honest h (BadLevel n) r = absurd r
plan_refused honest h EmptyBatch r = absurd r
plan_refused honest h (KeyOrder n) r = absurd r
plan_refused honest h TooLarge r = absurd r
plan_refused honest h LevelZeroFull r = absurd r
plan_refused honest h SequencesSpent r = absurd r
plan_refused honest h Halted r = r
plan_refused honest h (UnknownSnapshot n) r = absurd r
plan_refused honest h (Conflict n) r = absurd r
plan_refused honest h (UnknownTicket n) r = absurd r
plan_refused honest h NumbersSpent r = absurd r
plan_refused honest h Stale r = absurd r
plan_refused honest h SlotsHeld r = absurd r
plan_refused honest h VersionsSpent r = absurd r
plan_refused honest h PinsSpent r = absurd r

pub plan_unfit : (honest : Type 0) (h : Held) (e : StateFault) → IsPlanRefusal h e → IsNextRefusal honest h e
plan_unfit honest h OutOfMemory r = r
plan_unfit honest h (Shelf f) r = absurd r
plan_unfit honest h (Read f) r = absurd r
plan_unfit honest h (BadLevel n) r = absurd r
plan_unfit honest h EmptyBatch r = absurd r
plan_unfit honest h (KeyOrder n) r = absurd r
plan_unfit honest h TooLarge r = absurd r
plan_unfit honest h LevelZeroFull r = absurd r
plan_unfit honest h SequencesSpent r = absurd r
plan_unfit honest h Halted r = r
plan_unfit honest h (UnknownSnapshot n) r = absurd r
plan_unfit honest h (Conflict n) r = absurd r
plan_unfit honest h (UnknownTicket n) r = absurd r
plan_unfit honest h NumbersSpent r = absurd r
plan_unfit honest h Stale r = absurd r
plan_unfit honest h SlotsHeld r = absurd r
plan_unfit honest h VersionsSpent r = absurd r
plan_unfit honest h PinsSpent r = absurd r

-- a range plan at a level up to 5 is refused as any plan, where it conflicts with no live job
pub range_refused : (honest : Type 0) (h : Held) (level : ℕ) (from to : UserKey) (e : StateFault) → level ≤ 5 → (e ≡ NumbersSpent → ⊥) → ((n : ℕ) → e ≡ Conflict n → ⊥)
    → IsRangeRefusal honest h level from to e → IsPlanRefusal h e
range_refused honest h level from to OutOfMemory low unspent other r = r.0
range_refused honest h level from to (Shelf f) low unspent other r = absurd r
range_refused honest h level from to (Read f) low unspent other r = absurd r
range_refused honest h level from to (BadLevel n) low unspent other r = (let over = r.2 in absurd (omega arith))
range_refused honest h level from to EmptyBatch low unspent other r = absurd r
range_refused honest h level from to (KeyOrder n) low unspent other r = absurd r
range_refused honest h level from to TooLarge low unspent other r = absurd r
range_refused honest h level from to LevelZeroFull low unspent other r = absurd r
range_refused honest h level from to SequencesSpent low unspent other r = absurd r
range_refused honest h level from to Halted low unspent other r = r
range_refused honest h level from to (UnknownSnapshot n) low unspent other r = absurd r
range_refused honest h level from to (Conflict n) low unspent other r = absurd (other n refl)
range_refused honest h level from to (UnknownTicket n) low unspent other r = absurd r
range_refused honest h level from to NumbersSpent low unspent other r = absurd (unspent refl)
range_refused honest h level from to Stale low unspent other r = absurd r
range_refused honest h level from to SlotsHeld low unspent other r = absurd r
range_refused honest h level from to VersionsSpent low unspent other r = absurd r
range_refused honest h level from to PinsSpent low unspent other r = absurd r

pub closed_next : (h : Held) (p : TablePlan) → IsNext h p → IsClosedPlan h p
closed_next h p (inl chosen) = closed_choice h h.slots.version (reserved_jobs h.live) p refl chosen.0
closed_next h p (inr (inl joining)) =
    (let j = joining.1 in
    (files_over h.slots.version j.span.level j.span.from j.span.to, j.planned))
closed_next h p (inr (inr (inl down))) =
    (let d = down.2 in (files_over h.slots.version d.span.level d.span.from d.span.to, d.planned))
closed_next h p (inr (inr (inr chosen))) =
    closed_choice h h.slots.version (reserved_jobs h.live) p refl chosen.2

pub refused_next : (honest : Type 0) (h : Held) (p : TablePlan) (e : StateFault) → h.halted ≡ false → (honest → IsNext h p) → ((e ≡ NumbersSpent) × (h.next_ticket ≡ 2 ^ 64 - 1)) ⊎ (e ≡ OutOfMemory)
    → IsNextRefusal honest h e
refused_next honest h p e going next (inl x) = subst (λ (f : StateFault). IsNextRefusal honest h f) (sym x.0) (going, x.1, λ y. (p, next y))
refused_next honest h p e going next (inr x) = subst (λ (f : StateFault). IsNextRefusal honest h f) (sym x) going

-- what goes before a choice that is not made, or waits, is next
before_next : (h : Held) (p : TablePlan) → HasNoneAtOnce h → GoesBefore h p → IsNext h p
before_next h p none (inl joining) = inr (inl (none, joining))
before_next h p none (inr down) = inr (inr (inl (none, down.0, down.1)))

pub next_unchosen : (h : Held) (o : Option TablePlan)
    → HasNoChoice h.slots.version (reserved_jobs h.live)
    → MatchOption o (NoneGoesBefore h) (λ p. GoesBefore h p)
    → MatchOption o (HasNoNext h) (λ p. IsNext h p)
next_unchosen h None none m = (m.0, m.1, inl none)
next_unchosen h (Some p) none m = before_next h p (inl none) m

-- where nothing can be joined, the outermost file goes before the choice
pub outermost_before : (h : Held) (o : Option TablePlan) → HasNoJoining h
    → MatchOption o (NoneGoesDown h) (λ p. GoesDown h p)
    → MatchOption o (NoneGoesBefore h) (λ p. GoesBefore h p)
outermost_before h None none m = (none, m)
outermost_before h (Some p) none m = inr (none, m)

pub match_none : {A : Type 0} (o : Option A) (P : Type 0) (Q : A → Type 0) → ((x : A) → o ≡ Some x → ⊥) → MatchOption o P Q → P
match_none None P Q f m = m
match_none (Some x) P Q f m = absurd (f x refl)

-- where the choice waits, what goes before it is next, or else the choice, where level 0 is ready
pub next_before : (h : Held) (chosen p : TablePlan) → WaitsForOthers h chosen → GoesBefore h p
    → IsNext h p
next_before h chosen p w b = before_next h p (inr (chosen, w)) b

pub next_chosen : (h : Held) (p : TablePlan) → NoneGoesBefore h → IsChosen h p → IsReady h
    → IsNext h p
next_chosen h p none c ready = inr (inr (inr (none.0, none.1, c, ready)))

pub next_waits : (h : Held) (chosen : TablePlan) → NoneGoesBefore h → WaitsForOthers h chosen
    → (IsReady h → ⊥) → HasNoNext h
next_waits h chosen none w waits = (none.0, none.1, inr (chosen, w, waits))

-- ---- the outermost file

pub outermost_low : (v : Levels) (rs : List Reserved) (s : Span) → IsOverOutermost v rs s
    → s.level ≤ 5
outermost_low v rs s o = (let zero = o.level in omega arith)

pub outermost_of : (h : Held) (v : Levels) (rs : List Reserved) (o : Option Span)
    → v ≡ h.slots.version → rs ≡ reserved_jobs h.live
    → MatchOption o (HasNoOutermost v rs) (λ s. IsOverOutermost v rs s)
    → MatchOption o (HasNoOutermost h.slots.version (reserved_jobs h.live))
    (λ s. IsOverOutermost h.slots.version (reserved_jobs h.live) s)
outermost_of h v rs o same live m =
    subst
    (λ (x : Levels). MatchOption o (HasNoOutermost x (reserved_jobs h.live))
    (λ s. IsOverOutermost x (reserved_jobs h.live) s)) same
    (subst (λ (x : List Reserved). MatchOption o (HasNoOutermost v x) (λ s. IsOverOutermost v x s))
    live m)

pub joined_low : (v : Levels) (target_size : ℕ) (s : Span) → IsJoined v target_size s → s.level ≤ 5
joined_low v target_size s j = j.inside

pub ready_of : (h : Held) (v : Levels) (rs : List Reserved) (size : ℕ) → v ≡ h.slots.version → rs ≡ reserved_jobs h.live → size ≡ h.options.target_size
    → (picker.IsReady v rs size → IsReady h) × (IsReady h → picker.IsReady v rs size)
ready_of h v rs size same live target = (
  λ r. subst (λ (n : ℕ). picker.IsReady h.slots.version (reserved_jobs h.live) n) target (subst (λ (x : List Reserved). picker.IsReady h.slots.version x size) live (subst (λ (x : Levels). picker.IsReady x rs size) same r)),
  λ r. subst (λ (x : Levels). picker.IsReady x rs size) (sym same) (subst (λ (x : List Reserved). picker.IsReady h.slots.version x size) (sym live) (subst (λ (n : ℕ). picker.IsReady h.slots.version (reserved_jobs h.live) n) (sym target) r)),
)

pub chosen_of : (h : Held) (v : Levels) (rs : List Reserved) (o : Option TablePlan) → v ≡ h.slots.version → rs ≡ reserved_jobs h.live → MatchOption o (HasNoChoice v rs) (λ p. IsChoice v rs p)
    → MatchOption o (HasNoChoice h.slots.version (reserved_jobs h.live)) (λ p. IsChosen h p)
chosen_of h v rs o same live m =
    subst (λ (x : Levels). MatchOption o (HasNoChoice x (reserved_jobs h.live)) (λ p. IsChoice x (reserved_jobs h.live) p)) same
    (subst (λ (x : List Reserved). MatchOption o (HasNoChoice v x) (λ p. IsChoice v x p)) live m)
