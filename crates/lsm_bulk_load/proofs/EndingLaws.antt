-- What is left behind the lines, and why all is not done.
use Rattle.std.proofs.Common.{◌≡◌, ◌≢◌, ◌==◌, not, true, Bool, ℕ, ◌+◌, List, [], ◌∷◌, ◌++◌, All}
use Rattle.std.proofs.Common.{refl, sym, ap, ◌∙◌, subst, append_assoc, inl, inr}
use Rattle.std.proofs.lemmas.Bool.{eq-eqb, false≢true}
use Rattle.std.specs.Prelude.{Result, Ok, Err, IfErr, OnErr, OnOk}
use Rattle.lsm_codec.specs.Entries.{Entry}
use Rattle.lsm_shelf.specs.Asked.{Asked}
use Rattle.lsm_shelf.specs.declared.shelf_fault.ShelfFault.{ShelfFault}
use Rattle.lsm_history.specs.History.{IsLater}
use Rattle.lsm_codec.proofs.CallerLemmas.{filter_has, has_cases}
use Rattle.lsm_live.specs.Booked.{Booked, HasTicket, without}
use Rattle.lsm_lines.specs.Gathering.{Pending}
use Rattle.lsm_lines.specs.declared.write_line_fault.WriteLineFault.{WriteLineFault}
use Rattle.lsm_lines.specs.declared.write_line_fault.WriteLineFault.TheVariants as lines
use Rattle.lsm_state.specs.Held.{Held}
use Rattle.lsm_shelf.specs.Place.{Place}
use Rattle.lsm_shelf.specs.Told.{Told, forks_behind}
use Rattle.lsm_store.specs.Working.{HaveEndedBeside}
use Rattle.lsm_store.specs.declared.worker_end.WorkerEnd.{WorkerEnd}
use Rattle.lsm_store.specs.declared.worker_fault.WorkerFault.{WorkerFault}
use Rattle.lsm_store.specs.Ends.{IsFaultless, IsFirstFault}
use Rattle.lsm_bulk_load.specs.Ending.{IsLate, IsLooked, ReservesNone}
use Rattle.lsm_shelf.specs.Told.{GivesForks}
use Rattle.lsm_bulk_load.specs.Loading.{HaveEndedWell, HaveWorkedBeside, IsForkedFor, IsLoaded}
use Rattle.lsm_bulk_load.specs.Loading.{IsStopped, IsUnloaded, SomeAreIn, SomeAreInToo, StopsBehind}
use Rattle.lsm_bulk_load.specs.Marks.{Marked, marked_in}
use Rattle.lsm_bulk_load.specs.declared.load_fault.LoadFault.{LoadFault}
use Rattle.lsm_bulk_load.specs.declared.load_fault.LoadFault.TheVariants.{OutOfMemory, Shelf, Line, Ingest, Other, Worker, Due}
use Rattle.lsm_bulk_load.specs.declared.progress.Progress.{Progress}
use Rattle.lsm_bulk_load.proofs.LoadLaws.{loads_none}

-- ---- what is due

pub given_up : (was is : Held) (live : List Booked) → is ≡ record was { live = live } → is ≡ record was { live = is.live }
given_up was is live e = e ∙ ap (λ (l : List Booked). record was { live = l }) (sym (ap (λ (h : Held). h.live) e))

pub not_given_up : (was is : Held) → is ≡ was → is ≡ record was { live = is.live }
not_given_up was is e = given_up was is was.live e

-- what is live without a ticket was live before, under another one
pub gone_with : (ticket : ℕ) (live : List Booked) (other : ℕ) → HasTicket (without ticket live) other → HasTicket live other × (other ≢ ticket)
gone_with ticket live other has =
    let f = filter_has (λ (b : Booked). not (b.work.ticket == ticket)) live has.0 has.1 in
    ((has.0, f.0, has.2), λ e. false≢true (subst (λ (c : Bool). not c ≡ true) (eq-eqb has.0.work.ticket ticket (has.2 ∙ e)) f.1))

pub reserves_same : (was is : Held) → is ≡ was → ReservesNone was is
reserves_same was is e ticket has = subst (λ (h : Held). HasTicket h.live ticket) e has

-- slots alone changed then
pub reserves_still : (was mid is : Held) → ReservesNone was mid → is ≡ record mid { slots = is.slots } → ReservesNone was is
reserves_still was mid is none rest ticket has = none ticket (subst (λ (l : List Booked). HasTicket l ticket) (ap (λ (h : Held). h.live) rest) has)

-- a job was reserved, which left `mid`, and given up again
pub reserves_back : (was mid is : Held) (job : Booked) (given : ℕ) → mid.live ≡ was.live ++ job ∷ [] → given ≡ job.work.ticket
    → ((other : ℕ) → HasTicket is.live other → HasTicket mid.live other × (other ≢ given)) → ReservesNone was is
reserves_back was mid is job given e its gone ticket has =
    let g = gone ticket has in
    let old : HasTicket (was.live ++ job ∷ []) ticket = subst (λ (l : List Booked). HasTicket l ticket) e g.0 in
    elim (has_cases was.live (job ∷ []) old.0 old.1) [
      | inl before ↦ (old.0, before, old.2)
      | inr new ↦ elim new [ inl same ↦ absurd (g.1 (sym old.2 ∙ sym (ap (λ (b : Booked). b.work.ticket) same) ∙ sym its)) | inr none ↦ absurd none ]
    ]

pub looked_none : (was is : Held) → is ≡ was → IsLooked was is
looked_none was is e = subst (λ (h : Held). IsLooked was h) (sym e) refl

-- a job was reserved, which left `mid`, and given up again
pub looked_back : (was mid is : Held) (live : List Booked) (next : ℕ) → mid ≡ record was { live = live; next_ticket = next } → is ≡ record mid { live = is.live } → IsLooked was is
looked_back was mid is live next e f =
    let whole : is ≡ record was { live = is.live; next_ticket = next } = f ∙ ap (λ (h : Held). record h { live = is.live }) e in
    whole ∙ ap (λ n. record was { live = is.live; next_ticket = n }) (sym (ap (λ (h : Held). h.next_ticket) whole))

pub looked_mark : (was is : Held) → IsLooked was is → marked_in is ≡ marked_in was
looked_mark was is looked = ap marked_in looked

-- ---- histories

later_same : (es : List Entry) → IsLater es es
later_same es = ([], refl)

later_is : (now old : List Entry) → now ≡ old → IsLater now old
later_is now old e = ([], e)

later_then : (a b c : List Entry) → IsLater c b → IsLater b a → IsLater c a
later_then a b c p q = (p.0 ++ q.0, p.1 ∙ ap (λ (l : List Entry). p.0 ++ l) q.1 ∙ sym (append_assoc p.0 q.0 a))

-- ---- what is in

-- nothing came in yet
none_came : (old : Pending) (found : Marked) (p : Progress) → old.held ≡ [] → p ≡ record { lines = 0; batches = 0 } → SomeAreIn old found found p
none_came old found p held none =
    (old.left, old.held, loads_none old found p held (ap (λ (q : Progress). q.lines) none) (ap (λ (q : Progress). q.batches) none))

all_in : (old : Pending) (found now : Marked) (p : Progress) → IsLoaded old found now p → SomeAreIn old found now p
all_in old found now p l = (l.0, [], l.1)

before_line : (old : Pending) (found now : Marked) (p : Progress) (fault : WriteLineFault) → StopsBehind old found now p fault → SomeAreIn old found now p
before_line old found now p (lines.BadLine place) s = (s.0, [], s.1)
before_line old found now p lines.LongLine s = (s.0, [], s.1)
before_line old found now p lines.LargeWrite s = (s.0, [], s.1)
before_line old found now p lines.NoNewline s = (s.0, [], s.1)
before_line old found now p lines.Read s = (s.0, [], s.1)
before_line old found now p lines.OutOfMemory s = s

-- up to the mark, or some earlier one
in_too : (Refused : Asked → ShelfFault → Type 0) (keeps : Held → Type 0) (old : Pending) (found mark : Marked) (p : Progress) (e : LoadFault) → IsStopped Refused keeps old found mark p e
    → SomeAreInToo old found mark p
in_too Refused keeps old found mark p OutOfMemory s = (mark, s, later_same mark.history)
in_too Refused keeps old found mark p (Line fault) s = (mark, before_line old found mark p fault s, later_same mark.history)
in_too Refused keeps old found mark p (Ingest fault) s = (mark, (s.0, s.1, s.2), later_same mark.history)
in_too Refused keeps old found mark p Other s = s
in_too Refused keeps old found mark p (Shelf fault) s = absurd s
in_too Refused keeps old found mark p (Worker fault) s = absurd s
in_too Refused keeps old found mark p Due s = absurd s

too_later : (old : Pending) (found mark now : Marked) (p : Progress) → SomeAreInToo old found mark p → IsLater now.history mark.history → SomeAreInToo old found now p
too_later old found mark now p s later = (s.0, s.1, later_then s.0.history mark.history now.history later s.2)

-- ---- why all is not done

of_lines : (Refused : Asked → ShelfFault → Type 0) (Ended : List WorkerEnd → Type 0) (keeps : Held → Type 0) (old : Pending) (found now : Marked) (p : Progress) (e : LoadFault)
    → IsStopped Refused keeps old found now p e → IsUnloaded Refused Ended keeps old found now p e
of_lines Refused Ended keeps old found now p OutOfMemory s = s
of_lines Refused Ended keeps old found now p (Line fault) s = s
of_lines Refused Ended keeps old found now p (Ingest fault) s = s
of_lines Refused Ended keeps old found now p Other s = s
of_lines Refused Ended keeps old found now p (Shelf fault) s = absurd s
of_lines Refused Ended keeps old found now p (Worker fault) s = absurd s
of_lines Refused Ended keeps old found now p Due s = absurd s

-- all lines are in, and then this
behind_all : {T : Type 0} (Refused : Asked → ShelfFault → Type 0) (Ended : List WorkerEnd → Type 0) (keeps : Held → Type 0) (old : Pending) (found mark now : Marked) (p : Progress) (x : T) (ends : List WorkerEnd) (e : LoadFault)
    → IsLoaded old found mark p → Ended ends → IsLate {T = T} mark now (Ok x) ends e → IsUnloaded Refused Ended keeps old found now p e
behind_all Refused Ended keeps old found mark now p x ends e l each (inl k) =
    rw k.0 (too_later old found mark now p (mark, all_in old found mark p l, later_same mark.history) k.1)
behind_all Refused Ended keeps old found mark now p x ends (Worker fault) l each (inr k) =
    (subst (λ (m : Marked). IsLoaded old found m p) (sym k.0) l, (ends, each, k.1))
behind_all Refused Ended keeps old found mark now p x ends Due l each (inr k) = subst (λ (m : Marked). IsLoaded old found m p) (sym k.0) l
behind_all Refused Ended keeps old found mark now p x ends OutOfMemory l each (inr k) = absurd k.1
behind_all Refused Ended keeps old found mark now p x ends (Line fault) l each (inr k) = absurd k.1
behind_all Refused Ended keeps old found mark now p x ends (Ingest fault) l each (inr k) = absurd k.1
behind_all Refused Ended keeps old found mark now p x ends Other l each (inr k) = absurd k.1
behind_all Refused Ended keeps old found mark now p x ends (Shelf fault) l each (inr k) = absurd k.1

-- not all are
behind_some : (T : Type 0) (Refused : Asked → ShelfFault → Type 0) (Ended : List WorkerEnd → Type 0) (keeps : Held → Type 0) (old : Pending) (found mark now : Marked) (p : Progress) (f : LoadFault) (ends : List WorkerEnd) (e : LoadFault)
    → IsStopped Refused keeps old found mark p f → IsLate {T = T} mark now (Err f) ends e → IsUnloaded Refused Ended keeps old found now p e
behind_some T Refused Ended keeps old found mark now p f ends e s (inl k) = rw k.0 (too_later old found mark now p (in_too Refused keeps old found mark p f s) k.1)
behind_some T Refused Ended keeps old found mark now p f ends e s (inr k) =
    let here : IsStopped Refused keeps old found now p f = subst (λ (m : Marked). IsStopped Refused keeps old found m p f) (sym k.0) s in
    rw k.1 (of_lines Refused Ended keeps old found now p f here)

-- ---- one reason

pub late_other : {T : Type 0} (mark now : Marked) (loaded : Result T LoadFault) (ends : List WorkerEnd) → IsLater now.history mark.history → IsLate mark now loaded ends Other
late_other mark now loaded ends later = inl (refl, later)

pub late_lines : {T : Type 0} (mark now : Marked) (loaded : Result T LoadFault) (ends : List WorkerEnd) (e : LoadFault) → loaded ≡ Err e → now ≡ mark → IsLate mark now loaded ends e
late_lines mark now loaded ends e is same = rw is (inr (same, refl))

pub late_worker : {T : Type 0} (mark now : Marked) (loaded : Result T LoadFault) (ends : List WorkerEnd) (x : T) (fault : WorkerFault) → loaded ≡ Ok x → now ≡ mark → IsFirstFault fault ends
    → IsLate mark now loaded ends (Worker fault)
late_worker mark now loaded ends x fault is same first = rw is (inr (same, first))

pub late_due : {T : Type 0} (mark now : Marked) (loaded : Result T LoadFault) (ends : List WorkerEnd) (x : T) → loaded ≡ Ok x → now ≡ mark → IsLate mark now loaded ends Due
late_due mark now loaded ends x is same = rw is (inr (same, tt))

pub none_refused : {T : Type 0} (loaded : Result T LoadFault) (x : T) → loaded ≡ Ok x → OnErr loaded ⊥
none_refused loaded x is = rw is tt

-- ---- a load beside workers, by what came of the lines, and then of the workers

pub finished : {T : Type 0} (old : Pending) (found mark m now : Marked) (p : Progress) (loaded done : Result T LoadFault) → mark ≡ found → OnOk loaded (IsLoaded old mark m p)
    → OnOk done (OnErr loaded ⊥) → OnOk done (now ≡ m) → OnOk done (IsLoaded old found now p)
finished old found mark m now p (Ok x) (Ok y) same l none is =
    subst (λ (f : Marked). IsLoaded old f now p) same (subst (λ (n : Marked). IsLoaded old mark n p) (sym is) l)
finished old found mark m now p (Err e) (Ok y) same l none is = absurd none
finished old found mark m now p loaded (Err e) same l none is = tt

pub unfinished : {T : Type 0} (Refused : Asked → ShelfFault → Type 0) (Ended : List WorkerEnd → Type 0) (keeps : Held → Type 0) (old : Pending) (found mark m now : Marked) (p : Progress) (ends : List WorkerEnd)
    (loaded done : Result T LoadFault) → mark ≡ found → OnOk loaded (IsLoaded old mark m p) → IfErr loaded (λ e. IsStopped Refused keeps old mark m p e)
    → Ended ends → IfErr done (λ e. IsLate m now loaded ends e) → IfErr done (λ e. IsUnloaded Refused Ended keeps old found now p e)
unfinished Refused Ended keeps old found mark m now p ends loaded (Ok y) same l s each late = tt
unfinished Refused Ended keeps old found mark m now p ends (Ok x) (Err e) same l s each late =
    behind_all Refused Ended keeps old found m now p x ends e (subst (λ (f : Marked). IsLoaded old f m p) same l) each late
unfinished {T} Refused Ended keeps old found mark m now p ends (Err f) (Err e) same l s each late =
    behind_some T Refused Ended keeps old found m now p f ends e (subst (λ (g : Marked). IsStopped Refused keeps old g m p f) same s) late

-- no worker began
pub unbegun : {T : Type 0} (Refused : Asked → ShelfFault → Type 0) (Ended : List WorkerEnd → Type 0) (keeps : Held → Type 0) (old : Pending) (found mark now : Marked) (p : Progress) (done : Result T LoadFault)
    → mark ≡ found → old.held ≡ [] → p ≡ record { lines = 0; batches = 0 } → IfErr done (λ e. IsLate {T = T} mark now (Err OutOfMemory) [] e)
    → IfErr done (λ e. IsUnloaded Refused Ended keeps old found now p e)
unbegun Refused Ended keeps old found mark now p (Ok y) same held none late = tt
unbegun {T} Refused Ended keeps old found mark now p (Err e) same held none late =
    behind_some T Refused Ended keeps old found mark now p OutOfMemory [] e (subst (λ (m : Marked). SomeAreIn old found m p) (sym same) (none_came old found p held none)) late

-- ---- who worked

module _ (Honest : Type 0) (Refused : Asked → ShelfFault → Type 0) (keeps : Held → Type 0)
    (place : Place) (number workers : ℕ) where
  -- the shelves of workers are the next forks
  pub worked_beside : (shelves : List Told) (ends items : List WorkerEnd) → shelves
      ≡ forks_behind place number workers → ends ≡ items
      → HaveEndedBeside Honest Refused keeps shelves items
      → HaveWorkedBeside Honest Refused keeps place number workers ends
  worked_beside shelves ends items new same ended =
      subst (λ (ts : List Told). HaveEndedBeside Honest Refused keeps ts ends) new
      (subst (λ (es : List WorkerEnd). HaveEndedBeside Honest Refused keeps shelves es)
      (sym same) ended)

  pub ended_well : {T : Type 0} (done : Result T LoadFault) (ends : List WorkerEnd)
      → OnOk done (All IsFaultless ends) → HaveWorkedBeside Honest Refused keeps place number
      workers ends
      → OnOk done (HaveEndedWell (HaveWorkedBeside Honest Refused keeps place number workers))
  ended_well (Ok x) ends none worked = (ends, none, worked)
  ended_well (Err e) ends none worked = tt

  -- where no worker began all is not done
  pub none_well : {T : Type 0} (done loaded : Result T LoadFault) (e : LoadFault) → loaded ≡ Err e
      → OnOk done (OnErr loaded ⊥)
      → OnOk done (HaveEndedWell (HaveWorkedBeside Honest Refused keeps place number workers))
  none_well {T} (Ok x) loaded e is none = let here : ⊥ = subst (λ (r : Result T LoadFault). OnErr r ⊥) is none in absurd here
  none_well (Err f) loaded e is none = tt

-- ---- what the shelf was told, where it gave all forks

abbrev not_of_forks : LoadFault → Type 0
not_of_forks (Shelf fault) = ⊥
not_of_forks OutOfMemory = Unit {0}
not_of_forks (Line fault) = Unit {0}
not_of_forks (Ingest fault) = Unit {0}
not_of_forks Other = Unit {0}
not_of_forks (Worker fault) = Unit {0}
not_of_forks Due = Unit {0}

stopped_behind : (Refused : Asked → ShelfFault → Type 0) (keeps : Held → Type 0) (old : Pending)
    (found mark : Marked) (p : Progress) (e : LoadFault) → IsStopped Refused keeps old found mark p
    e → not_of_forks e
stopped_behind Refused keeps old found mark p (Shelf fault) s = absurd s
stopped_behind Refused keeps old found mark p OutOfMemory s = tt
stopped_behind Refused keeps old found mark p (Line fault) s = tt
stopped_behind Refused keeps old found mark p (Ingest fault) s = tt
stopped_behind Refused keeps old found mark p Other s = tt
stopped_behind Refused keeps old found mark p (Worker fault) s = tt
stopped_behind Refused keeps old found mark p Due s = tt

late_behind : {T : Type 0} (mark now : Marked) (loaded : Result T LoadFault) (ends : List WorkerEnd)
    (e : LoadFault) → IfErr loaded not_of_forks → IsLate mark now loaded ends e → not_of_forks e
late_behind mark now loaded ends e stopped (inl k) = rw k.0 tt
late_behind mark now (Err f) ends e stopped (inr k) = rw k.1 stopped
late_behind mark now (Ok x) ends (Shelf fault) stopped (inr k) = absurd k.1
late_behind mark now (Ok x) ends OutOfMemory stopped (inr k) = tt
late_behind mark now (Ok x) ends (Line fault) stopped (inr k) = tt
late_behind mark now (Ok x) ends (Ingest fault) stopped (inr k) = tt
late_behind mark now (Ok x) ends Other stopped (inr k) = tt
late_behind mark now (Ok x) ends (Worker fault) stopped (inr k) = tt
late_behind mark now (Ok x) ends Due stopped (inr k) = tt

forked_for : (count : ℕ) (e : LoadFault) (old new : Told) → not_of_forks e
    → GivesForks count old new → IsForkedFor count e old new
forked_for count (Shelf fault) old new other gives = absurd other
forked_for count OutOfMemory old new other gives = gives
forked_for count (Line fault) old new other gives = gives
forked_for count (Ingest fault) old new other gives = gives
forked_for count Other old new other gives = gives
forked_for count (Worker fault) old new other gives = gives
forked_for count Due old new other gives = gives

pub forks_given : {T : Type 0} (done : Result T LoadFault) (count : ℕ) (old new : Told)
    → GivesForks count old new → OnOk done (GivesForks count old new)
forks_given (Ok x) count old new gives = gives
forks_given (Err e) count old new gives = tt

pub forks_late : {T : Type 0} (Refused : Asked → ShelfFault → Type 0) (keeps : Held → Type 0)
    (old : Pending) (found mark now : Marked) (p : Progress) (ends : List WorkerEnd)
    (loaded done : Result T LoadFault) (count : ℕ) (was is : Told)
    → IfErr loaded (λ e. IsStopped Refused keeps old found mark p e)
    → IfErr done (λ e. IsLate mark now loaded ends e) → GivesForks count was is
    → IfErr done (λ e. IsForkedFor count e was is)
forks_late Refused keeps old found mark now p ends loaded (Ok x) count was is stopped late gives =
    tt
forks_late Refused keeps old found mark now p ends (Ok y) (Err e) count was is stopped late gives =
    forked_for count e was is (late_behind mark now (Ok y) ends e tt late) gives
forks_late {T} Refused keeps old found mark now p ends (Err f) (Err e) count was is stopped late
    gives =
    forked_for count e was is
    (late_behind {T = T} mark now (Err f) ends e
    (stopped_behind Refused keeps old found mark p f stopped) late) gives

-- no worker began
pub forks_unused : {T : Type 0} (mark now : Marked) (done : Result T LoadFault) (count : ℕ)
    (was is : Told) → IfErr done (λ e. IsLate {T = T} mark now (Err OutOfMemory) [] e)
    → GivesForks count was is
    → IfErr done (λ e. IsForkedFor count e was is)
forks_unused mark now (Ok x) count was is late gives = tt
forks_unused {T} mark now (Err e) count was is late gives = forked_for count e was is
    (late_behind {T = T} mark now (Err OutOfMemory) [] e tt late) gives
