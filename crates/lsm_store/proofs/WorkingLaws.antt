-- What follows of what a worker did.
use Rattle.std.proofs.Common.{◌≡◌, ℕ, suc, ◌+◌, ◌-◌, ◌^◌, ◌≤◌, Bool, true, false, List, [], ◌∷◌, ◌++◌, length, map, Option, None, Some, refl, sym, ap, ◌∙◌, subst, inl, inr, arith}
use Rattle.std.specs.Prelude.{MatchBool, min, reverse, Result, Ok, Err, OnOk}
use Rattle.std.proofs.lemmas.List.{append-nil, append_assoc, map-append, nil_from_length, reverse-append}
use Rattle.lsm_codec.specs.Lists.{Has}
use Rattle.lsm_shelf.specs.Asked.{Asked, Put, StartManifest, AppendManifest}
use Rattle.lsm_shelf.specs.Told.{Told, Becomes, Counted, appending, putting, sending}
use Rattle.lsm_shelf.specs.declared.shelf_fault.ShelfFault.{ShelfFault}
use Rattle.lsm_shelf.specs.declared.shelf_fault.ShelfFault.TheVariants as why
use Rattle.lsm_table.specs.ReadFault.{ReadCounted}
use Rattle.lsm_table.specs.TableBuilding.{table_bytes}
use Rattle.lsm_table.specs.declared.table_options.TableOptions.{TableOptions}
use Rattle.lsm_table.specs.declared.read_fault.ReadFault.{ReadFault}
use Rattle.lsm_table.specs.declared.read_fault.ReadFault.TheVariants as read
use Rattle.lsm_merge.specs.Causes.{HasCause}
use Rattle.lsm_merge.specs.Gathering.{PutsAtMost}
use Rattle.lsm_merge.specs.Inputs.{IsReadable, input_numbers, numbers_of}
use Rattle.lsm_merge.specs.Outputs.{going, putting_all}
use Rattle.lsm_merge.specs.Work.{Done, Work, puts_by}
use Rattle.lsm_merge.specs.declared.merge_fault.InputFault.TheVariants.{Read, OutOfOrder}
use Rattle.lsm_merge.specs.declared.merge_fault.OutputFault.TheVariants as output
use Rattle.lsm_merge.specs.declared.merge_fault.MergeFault.{MergeFault}
use Rattle.lsm_merge.specs.declared.merge_fault.MergeFault.TheVariants as merge
use Rattle.lsm_journal.specs.HeldManifest.{HeldManifest, is_at_limit}
use Rattle.lsm_journal.specs.Difference.{Difference, changed_by}
use Rattle.lsm_journal.specs.Sending.{Sends}
use Rattle.lsm_version.specs.Versions.{Levels}
use Rattle.lsm_state.specs.Changing.{IsChangeRefusal, IsSlotRefusal}
use Rattle.lsm_state.specs.Gathering.{Gathers, IsGatherRefusal, IsGatherRefusedAtOnce, IsRefusedIn}
use Rattle.lsm_state.specs.Gathering.{gathered}
use Rattle.lsm_state.specs.Held.{Held}
use Rattle.lsm_state.specs.Ingesting.{with_number}
use Rattle.lsm_state.specs.Options.{sizes_of}
use Rattle.lsm_state.specs.Installing.{IsInstallRefusal}
use Rattle.lsm_state.specs.declared.gather_fault.GatherFault.{GatherFault}
use Rattle.lsm_state.specs.declared.gather_fault.GatherFault.TheVariants as gather
use Rattle.lsm_state.specs.declared.state_fault.StateFault.{StateFault}
use Rattle.lsm_state.specs.declared.state_fault.StateFault.TheVariants as state
use Rattle.lsm_store.specs.Picking.{IsPickedUnder}
use Rattle.lsm_store.specs.WorkerFault.{of_gather}
use Rattle.lsm_store.specs.Workers.{IsOfInstalling, IsOfReserving, IsOfTurn}
use Rattle.lsm_store.specs.Working.{AreReturned, Given, IsCompaction, IsCounted, IsCountedIf}
use Rattle.lsm_store.specs.Working.{IsDone, IsWorked, given_one, IsLast, IsLook, IsLookRefused}
use Rattle.lsm_store.specs.Working.{IsPutOrSent, IsRefusedBy, IsReturned, IsStoppedBy, IsTaken}
use Rattle.lsm_store.specs.Working.{IsTurn, IsUndone, LooksUnder, OnlyPutsAndSends, Turns}
use Rattle.lsm_store.specs.Working.{compactions, given_each}
use Rattle.lsm_store.specs.declared.look.Look.{Look}
use Rattle.lsm_store.specs.declared.look.Look.TheVariants as look
use Rattle.lsm_store.specs.declared.picks.Picks.{Picks}
use Rattle.lsm_store.specs.declared.turn.Turn.{Turn}
use Rattle.lsm_store.specs.declared.turn.Turn.TheVariants.{Gathered, Compacted}
use Rattle.lsm_store.specs.declared.worker_end.WorkerEnd.{WorkerEnd}
use Rattle.lsm_store.specs.declared.worker_fault.WorkerFault.{WorkerFault}
use Rattle.lsm_store.specs.declared.worker_fault.WorkerFault.TheVariants.{NoThread, State, Merge}

-- ---- calls that put tables and write the manifest

abbrev NoFewer : Told → Told → Type 0
NoFewer was is = (was.faults ≤ is.faults) × (was.misses ≤ is.misses)

all_in : (xs ys : List Asked) → ((a : Asked) → Has xs a → IsPutOrSent a) → ((a : Asked) → Has ys a → IsPutOrSent a) → (a : Asked) → Has (xs ++ ys) a → IsPutOrSent a
all_in [] ys first second a h = second a h
all_in (x ∷ xs) ys first second a h = elim h [ inl e ↦ first a (inl e) | inr t ↦ all_in xs ys (λ b k. first b (inr k)) second a t ]

only_none : (t : Told) → OnlyPutsAndSends t t
only_none t = record { place = refl; gone = refl; listed = refl; found = refl; forks = refl; faults = omega arith; misses = omega arith; calls = []; made = refl; each = λ a h. absurd h }

only_then : (a b c : Told) → OnlyPutsAndSends a b → OnlyPutsAndSends b c → OnlyPutsAndSends a c
only_then a b c p q = record {
  place = q.place ∙ p.place;
  gone = q.gone ∙ p.gone;
  listed = q.listed ∙ p.listed;
  found = q.found ∙ p.found;
  forks = q.forks ∙ p.forks;
  faults = (let x = p.faults in let y = q.faults in omega arith);
  misses = (let x = p.misses in let y = q.misses in omega arith);
  calls = q.calls ++ p.calls;
  made = q.made ∙ ap (λ (m : List Asked). q.calls ++ m) p.made ∙ sym (append_assoc q.calls p.calls a.made);
  each = all_in q.calls p.calls q.each p.each;
}

-- no call that changes what lies there
only_becomes : (was is : Told) → Becomes was is → OnlyPutsAndSends was is
only_becomes was is b = record {
  place = b.place;
  gone = b.gone;
  listed = b.listed;
  found = b.found;
  forks = b.forks;
  faults = b.faults;
  misses = b.misses;
  calls = [];
  made = b.made;
  each = λ a h. absurd h;
}

-- ---- puts

abbrev puts_in : List (ℕ × List ℕ) → List Asked
puts_in tables = map (λ (p : ℕ × List ℕ). Put p.0 p.1) tables

going_front : (xs there : List Asked) → going xs there ≡ going xs [] ++ there
going_front [] there = refl
going_front (x ∷ xs) there =
    going_front xs (x ∷ there) ∙ sym (append_assoc (going xs []) (x ∷ []) there) ∙ ap (λ (m : List Asked). m ++ there) (sym (going_front xs (x ∷ [])))

going_puts : (tables : List (ℕ × List ℕ)) (front : List Asked) → ((a : Asked) → Has front a → IsPutOrSent a) → (a : Asked) → Has (going (puts_in tables) front) a → IsPutOrSent a
going_puts [] front each a h = each a h
going_puts (p ∷ tables) front each a h = going_puts tables (Put p.0 p.1 ∷ front) (λ b k. elim k [ inl e ↦ subst IsPutOrSent e tt | inr t ↦ each b t ]) a h

only_put : (tables : List (ℕ × List ℕ)) (was is : Told) → Becomes (putting_all tables was) is → OnlyPutsAndSends was is
only_put tables was is b = record {
  place = b.place;
  gone = b.gone;
  listed = b.listed;
  found = b.found;
  forks = b.forks;
  faults = b.faults;
  misses = b.misses;
  calls = going (puts_in tables) [];
  made = b.made ∙ going_front (puts_in tables) was.made;
  each = going_puts tables [] (λ a h. absurd h);
}

-- ---- writes of the manifest

only_one : (a b : Asked) → IsPutOrSent a → Has (a ∷ []) b → IsPutOrSent b
only_one a b p h = elim h [ inl e ↦ subst IsPutOrSent e p | inr t ↦ absurd t ]

only_appended : (bytes : List ℕ) (was is : Told) → Becomes (appending bytes was) is → OnlyPutsAndSends was is
only_appended bytes was is b = record {
  place = b.place;
  gone = b.gone;
  listed = b.listed;
  found = b.found;
  forks = b.forks;
  faults = b.faults;
  misses = b.misses;
  calls = AppendManifest bytes ∷ [];
  made = b.made;
  each = λ a h. only_one (AppendManifest bytes) a tt h;
}

only_started : (number : ℕ) (bytes : List ℕ) (was is : Told) → Becomes (sending number bytes was) is → OnlyPutsAndSends was is
only_started number bytes was is b = record {
  place = b.place;
  gone = b.gone;
  listed = b.listed;
  found = b.found;
  forks = b.forks;
  faults = b.faults;
  misses = b.misses;
  calls = StartManifest number bytes ∷ [];
  made = b.made;
  each = λ a h. only_one (StartManifest number bytes) a tt h;
}

sent_by : (b : Bool) (P Q R : Type 0) → (P → R) → (Q → R) → MatchBool b P Q → R
sent_by true P Q R f g m = f m
sent_by false P Q R f g m = g m

only_sent : (d : Difference) (v : Levels) (next after : ℕ) (old new : HeldManifest) (was is : Told) → Sends d v next after old new was is → OnlyPutsAndSends was is
only_sent d v next after old new was is s =
    sent_by (is_at_limit old) _ _ (OnlyPutsAndSends was is) (λ started. only_started _ _ was is started.1.sent) (λ grown. only_appended _ was is grown.1.sent) s

-- ---- compactions

only_taken : (keeps : Held → Type 0) (d : Done) (was is : Told) → IsTaken keeps d was is → OnlyPutsAndSends was is
only_taken keeps d was is t =
    let i = t.takes.installed in
    only_sent i.change (changed_by i.change i.slots.version) t.old.next t.new.next t.old.journal t.new.journal was is i.changes.sends

only_done : (Honest : Type 0) (keeps : Held → Type 0) (work : Work) (was is : Told) → IsDone Honest keeps work was is → OnlyPutsAndSends was is
only_done Honest keeps work was is t = only_then was t.put is (only_put (puts_by t.result) was t.put t.merged.told) (only_taken keeps t.result t.put is t.taken)

-- ---- gathers

only_gathered : (Honest : Type 0) (old new : Held) (number : ℕ) (was is : Told) → Gathers Honest old new number was is → OnlyPutsAndSends was is
only_gathered Honest old new number was is g =
    only_then was g.mid is (only_put ((old.next, g.table.image) ∷ []) was g.mid g.put)
    (only_sent g.change (changed_by g.change g.slots.version) (suc old.next) new.next old.journal new.journal g.mid is g.changes.sends)

only_same : (was is : Told) → is ≡ was → OnlyPutsAndSends was is
only_same was is e = subst (λ (t : Told). OnlyPutsAndSends was t) (sym e) (only_none was)

only_at_most : (number : ℕ) (sizes : TableOptions) (was is : Told) → PutsAtMost number sizes was is → OnlyPutsAndSends was is
only_at_most number sizes was is p = elim p [
  | inl b ↦ only_becomes was is b
  | inr put ↦ only_put ((number, table_bytes sizes put.0) ∷ []) was is put.1
]

only_refused_in : (Honest : Type 0) (old new : Held) (least : ℕ) (e : GatherFault) (was is : Told) → IsRefusedIn Honest old new least e was is → OnlyPutsAndSends was is
only_refused_in Honest old new least (gather.State e) was is (inl merge) = only_same was is merge.2
only_refused_in Honest old new least (gather.State e) was is (inr c) =
    only_then was c.1 is (only_put ((old.next, c.0.image) ∷ []) was c.1 c.3) (only_becomes c.1 is c.5)
only_refused_in Honest old new least (gather.Merge e) was is (inl merge) = only_at_most old.next (sizes_of old.options) was is merge.1.told
only_refused_in Honest old new least (gather.Merge e) was is (inr c) = absurd c

only_ungathered : (Honest : Type 0) (old new : Held) (e : GatherFault) (was is : Told) → IsGatherRefusal Honest old new e was is → OnlyPutsAndSends was is
only_ungathered Honest old new e was is (inl once) = only_same was is once.2
only_ungathered Honest old new (gather.State e) was is (inr (least, may, inl lacks)) = only_same was is lacks.3
only_ungathered Honest old new (gather.Merge e) was is (inr (least, may, inl lacks)) = absurd lacks
only_ungathered Honest old new e was is (inr (least, may, inr (sought, slot, later))) = only_refused_in Honest old new least e was is later

-- ---- turns

only_turn : (Honest : Type 0) (keeps : Held → Type 0) (picks : Picks) (turn : Turn) (was is : Told) → IsTurn Honest keeps picks turn was is → OnlyPutsAndSends was is
only_turn Honest keeps picks Gathered was is g = only_gathered Honest g.old g.new g.number was is g.gathers
only_turn Honest keeps picks Compacted was is c = only_done Honest keeps c.work was is c.done

pub only_turns : (Honest : Type 0) (keeps : Held → Type 0) (picks : Picks) (turns : List Turn) (was is : Told) → Turns Honest keeps picks turns was is → OnlyPutsAndSends was is
only_turns Honest keeps picks [] was is e = only_same was is e
only_turns Honest keeps picks (turn ∷ turns) was is t =
    only_then was t.0 is (only_turns Honest keeps picks turns was t.0 t.1) (only_turn Honest keeps picks turn t.0 is t.2)

only_undone : (Honest : Type 0) (Refused : Asked → ShelfFault → Type 0) (keeps : Held → Type 0) (fault : WorkerFault) (was is : Told) → IsUndone Honest Refused keeps fault was is → OnlyPutsAndSends was is
only_undone Honest Refused keeps NoThread was is l = absurd l
only_undone Honest Refused keeps (State fault) was is l = elim l [
  | inl r ↦ only_same was is r.1
  | inr r ↦ only_then was r.1 is (only_put (puts_by r.0) was r.1 r.2.told) (only_becomes r.1 is r.3.leaves.unsent)
]
only_undone Honest Refused keeps (Merge fault) was is l = only_put l.told.tables was is l.told.told

only_last : (Honest : Type 0) (Refused : Asked → ShelfFault → Type 0) (keeps : Held → Type 0) (given : Given) (fault : Option WorkerFault) (was is : Told)
    → IsLast Honest Refused keeps given fault was is → OnlyPutsAndSends was is
only_last Honest Refused keeps given None was is l = only_same was is l.0
only_last Honest Refused keeps given (Some fault) was is l = elim l [
  | inl undone ↦ only_undone Honest Refused keeps fault was is undone
  | inr g ↦ only_ungathered Honest g.2.old g.2.new g.0 was is g.2.refusal
]

pub only_worked : (Honest : Type 0) (Refused : Asked → ShelfFault → Type 0) (keeps : Held → Type 0) (given : Given) (e : WorkerEnd) (back : Told)
    → IsWorked Honest Refused keeps given e back → OnlyPutsAndSends given.shelf back
only_worked Honest Refused keeps given e back w =
    only_then given.shelf w.mid back (only_turns Honest keeps given.picks w.turns given.shelf w.mid w.done) (only_last Honest Refused keeps given e.fault w.mid back w.last)

-- ---- faults of the shelf

-- where counts did not fall before, a refusal is counted all the same
counted_from : (e : ShelfFault) (a b c : Told) → NoFewer a b → Counted e b c → Counted e a c
counted_from why.OutOfMemory a b c p q = tt
counted_from why.Device a b c p q = let x = p.0 in omega arith
counted_from why.Missing a b c p q = let x = p.1 in omega arith
counted_from (why.Taken n) a b c p q = let x = p.1 in omega arith

read_from : (e : ReadFault) (a b c : Told) → NoFewer a b → ReadCounted e b c → ReadCounted e a c
read_from (read.Shelf fault) a b c p q = (q.0, counted_from fault a b c p q.1)
read_from (read.Table fault) a b c p q = tt

merge_counted : (inputs : List ℕ) (e : MergeFault) (a b c : Told) → NoFewer a b → HasCause inputs e b c → IsCounted (Merge e) a c
merge_counted inputs merge.OutOfMemory a b c p h = tt
merge_counted inputs (merge.ReadFailed number (Read fault)) a b c p h = read_from fault a b c p h.1.0
merge_counted inputs (merge.ReadFailed number OutOfOrder) a b c p h = tt
merge_counted inputs (merge.PutFailed number output.TooLarge) a b c p h = tt
merge_counted inputs (merge.PutFailed number (output.Shelf fault)) a b c p h = counted_from fault a b c p h.1.0
merge_counted inputs (merge.UnknownTicket ticket) a b c p h = tt
merge_counted inputs merge.NumbersSpent a b c p h = tt

refused_counted : (fault : ShelfFault) (old new : Held) (d : Done) (was is : Told) → IsInstallRefusal old new d (state.Shelf fault) was is → Counted fault was is
refused_counted fault old new d was is r = elim r [ inl once ↦ absurd once.0 | inr later ↦ later.2.1.1 ]

state_counted : (Honest : Type 0) (Refused : Asked → ShelfFault → Type 0) (keeps : Held → Type 0) (e : StateFault) (a b c : Told) → NoFewer a b
    → IsRefusedBy Honest Refused keeps e b c → IsCounted (State e) a c
state_counted Honest Refused keeps (state.Shelf fault) a b c p r = elim r [
  | inl reserving ↦ absurd reserving.0
  | inr later ↦
      let put = later.2.told in
      let f = put.faults in
      let m = put.misses in
      counted_from fault a later.1 c (let x = p.0 in omega arith, let x = p.1 in omega arith) (refused_counted fault later.3.old later.3.new later.0 later.1 c later.3.leaves.refusal)
]
state_counted Honest Refused keeps state.OutOfMemory a b c p r = tt
state_counted Honest Refused keeps (state.Read fault) a b c p r = tt
state_counted Honest Refused keeps (state.BadLevel n) a b c p r = tt
state_counted Honest Refused keeps state.EmptyBatch a b c p r = tt
state_counted Honest Refused keeps (state.KeyOrder n) a b c p r = tt
state_counted Honest Refused keeps state.TooLarge a b c p r = tt
state_counted Honest Refused keeps state.LevelZeroFull a b c p r = tt
state_counted Honest Refused keeps state.SequencesSpent a b c p r = tt
state_counted Honest Refused keeps state.Halted a b c p r = tt
state_counted Honest Refused keeps (state.UnknownSnapshot n) a b c p r = tt
state_counted Honest Refused keeps (state.Conflict n) a b c p r = tt
state_counted Honest Refused keeps (state.UnknownTicket n) a b c p r = tt
state_counted Honest Refused keeps state.NumbersSpent a b c p r = tt
state_counted Honest Refused keeps state.Stale a b c p r = tt
state_counted Honest Refused keeps state.SlotsHeld a b c p r = tt
state_counted Honest Refused keeps state.VersionsSpent a b c p r = tt
state_counted Honest Refused keeps state.PinsSpent a b c p r = tt

undone_counted : (Honest : Type 0) (Refused : Asked → ShelfFault → Type 0) (keeps : Held → Type 0) (e : WorkerFault) (a b c : Told) → NoFewer a b
    → IsUndone Honest Refused keeps e b c → IsCounted e a c
undone_counted Honest Refused keeps NoThread a b c p l = tt
undone_counted Honest Refused keeps (State fault) a b c p l = state_counted Honest Refused keeps fault a b c p l
undone_counted Honest Refused keeps (Merge fault) a b c p l = merge_counted (input_numbers l.work) fault a b c p l.cause

-- of a gather

put_then : (number : ℕ) (image : List ℕ) (a b mid : Told) → NoFewer a b → Becomes (putting number image b) mid → NoFewer a mid
put_then number image a b mid p put = let f = put.faults in let m = put.misses in (let x = p.0 in omega arith, let x = p.1 in omega arith)

shelf_counted : (Honest : Type 0) (old new : Held) (fault : ShelfFault) (a b c : Told) → NoFewer a b → IsGatherRefusal Honest old new (gather.State (state.Shelf fault)) b c → Counted fault a c
shelf_counted Honest old new fault a b c p (inl once) = absurd once.0
shelf_counted Honest old new fault a b c p (inr (least, may, inl lacks)) = absurd lacks.2
shelf_counted Honest old new fault a b c p (inr (least, may, inr (sought, slot, inl merge))) = (let e : state.Shelf fault ≡ state.OutOfMemory = merge.0 in cc)
shelf_counted Honest old new fault a b c p (inr (least, may, inr (sought, slot, inr change))) =
    counted_from fault a change.1 c (put_then old.next change.0.image a b change.1 p change.3) change.4.1.1

gather_counted : (Honest : Type 0) (old new : Held) (e : GatherFault) (a b c : Told) → NoFewer a b → IsGatherRefusal Honest old new e b c → IsCounted (of_gather e) a c
gather_counted Honest old new (gather.Merge e) a b c p (inl once) = absurd once.0
gather_counted Honest old new (gather.Merge e) a b c p (inr (least, may, inl lacks)) = absurd lacks
gather_counted Honest old new (gather.Merge e) a b c p (inr (least, may, inr (sought, slot, inl merge))) = merge_counted (numbers_of (gathered old least)) e a b c p merge.1.cause
gather_counted Honest old new (gather.Merge e) a b c p (inr (least, may, inr (sought, slot, inr change))) = absurd change
gather_counted Honest old new (gather.State (state.Shelf fault)) a b c p r = shelf_counted Honest old new fault a b c p r
gather_counted Honest old new (gather.State state.OutOfMemory) a b c p r = tt
gather_counted Honest old new (gather.State (state.Read fault)) a b c p r = tt
gather_counted Honest old new (gather.State (state.BadLevel n)) a b c p r = tt
gather_counted Honest old new (gather.State state.EmptyBatch) a b c p r = tt
gather_counted Honest old new (gather.State (state.KeyOrder n)) a b c p r = tt
gather_counted Honest old new (gather.State state.TooLarge) a b c p r = tt
gather_counted Honest old new (gather.State state.LevelZeroFull) a b c p r = tt
gather_counted Honest old new (gather.State state.SequencesSpent) a b c p r = tt
gather_counted Honest old new (gather.State state.Halted) a b c p r = tt
gather_counted Honest old new (gather.State (state.UnknownSnapshot n)) a b c p r = tt
gather_counted Honest old new (gather.State (state.Conflict n)) a b c p r = tt
gather_counted Honest old new (gather.State (state.UnknownTicket n)) a b c p r = tt
gather_counted Honest old new (gather.State state.NumbersSpent) a b c p r = tt
gather_counted Honest old new (gather.State state.Stale) a b c p r = tt
gather_counted Honest old new (gather.State state.SlotsHeld) a b c p r = tt
gather_counted Honest old new (gather.State state.VersionsSpent) a b c p r = tt
gather_counted Honest old new (gather.State state.PinsSpent) a b c p r = tt

last_counted : (Honest : Type 0) (Refused : Asked → ShelfFault → Type 0) (keeps : Held → Type 0) (given : Given) (fault : Option WorkerFault) (a b c : Told) → NoFewer a b
    → IsLast Honest Refused keeps given fault b c → IsCountedIf fault a c
last_counted Honest Refused keeps given None a b c p l = tt
last_counted Honest Refused keeps given (Some fault) a b c p l = elim l [
  | inl undone ↦ undone_counted Honest Refused keeps fault a b c p undone
  | inr g ↦ subst (λ (f : WorkerFault). IsCounted f a c) (sym g.1) (gather_counted Honest g.2.old g.2.new g.0 a b c p g.2.refusal)
]

pub worked_counted : (Honest : Type 0) (Refused : Asked → ShelfFault → Type 0) (keeps : Held → Type 0) (given : Given) (e : WorkerEnd) (back : Told)
    → IsWorked Honest Refused keeps given e back → IsCountedIf e.fault given.shelf back
worked_counted Honest Refused keeps given e back w =
    let only = only_turns Honest keeps given.picks w.turns given.shelf w.mid w.done in
    last_counted Honest Refused keeps given e.fault given.shelf w.mid back (only.faults, only.misses) w.last

-- ---- one worker more

pub one_turn_more : (installed installed' count : ℕ) → installed ≡ min count (2 ^ 64 - 1) → installed' ≡ min (installed + 1) (2 ^ 64 - 1) → installed' ≡ min (suc count) (2 ^ 64 - 1)
one_turn_more installed installed' count before after = omega (arith, before, after)

pub returned_more : (Honest : Type 0) (Refused : Asked → ShelfFault → Type 0) (keeps : Held → Type 0) (ts : List Given) (rs : List (WorkerEnd × Option Told)) (t : Given)
    (r : WorkerEnd × Option Told) → AreReturned Honest Refused keeps ts rs → IsReturned Honest Refused keeps t r.0 r.1 → AreReturned Honest Refused keeps (ts ++ t ∷ []) (rs ++ r ∷ [])
returned_more Honest Refused keeps [] [] t r all one = (one, tt)
returned_more Honest Refused keeps [] (q ∷ rs) t r all one = absurd all
returned_more Honest Refused keeps (s ∷ ts) [] t r all one = absurd all
returned_more Honest Refused keeps (s ∷ ts) (q ∷ rs) t r all one = (all.0, returned_more Honest Refused keeps ts rs t r all.1 one)

pub returned_more_in : (Honest : Type 0) (Refused : Asked → ShelfFault → Type 0) (keeps : Held → Type 0) (ts : List Given) (rs rs' : List (WorkerEnd × Option Told)) (t : Given)
    (r : WorkerEnd × Option Told) → rs' ≡ rs ++ r ∷ [] → AreReturned Honest Refused keeps ts rs → IsReturned Honest Refused keeps t r.0 r.1 → AreReturned Honest Refused keeps (ts ++ t ∷ []) rs'
returned_more_in Honest Refused keeps ts rs rs' t r push all one =
    subst (λ (xs : List (WorkerEnd × Option Told)). AreReturned Honest Refused keeps (ts ++ t ∷ []) xs) (sym push) (returned_more Honest Refused keeps ts rs t r all one)

-- ---- what workers are given

-- each of the front, and the last one
pub given_last : (picks : Picks) (to_the_end : Bool) (all front : List Told) (t : Told) → all ≡ front ++ t ∷ []
    → given_each picks to_the_end all ≡ given_each picks to_the_end front ++ given_one picks to_the_end t ∷ []
given_last picks to_the_end all front t e = ap (given_each picks to_the_end) e ∙ map-append (given_one picks to_the_end) front (t ∷ [])

pub same_given : (p q : Picks) (a b : Bool) (t u : Told) → p ≡ q → a ≡ b → t ≡ u → given_one p a t ≡ given_one q b u
same_given p q a b t u e f g = cc

-- a job that was picked and was done is a compaction
pub turned : (Honest : Type 0) (keeps : Held → Type 0) (picks : Picks) (work : Work) (was is : Told) → IsPickedUnder Honest keeps picks (Some work) → IsDone Honest keeps work was is
    → IsCompaction Honest keeps picks was is
turned Honest keeps picks work was is picked done = record { work = work; picked = picked; done = done }

-- ---- refusals of a gather

refused_as : {P : Type 0} (Honest : Type 0) (old new : Held) (e : StateFault) (was is : Told) → IsGatherRefusal Honest old new (gather.State e) was is → (IsGatherRefusedAtOnce old (gather.State e) → P)
    → (IsSlotRefusal old.slots new.slots e → P) → (e ≡ state.OutOfMemory → P) → ((mid : Told) → IsChangeRefusal (with_number old new.slots) new e mid is → P) → P
refused_as Honest old new e was is (inl once) a b c d = a once.0
refused_as Honest old new e was is (inr (least, may, inl lacks)) a b c d = b lacks.2
refused_as Honest old new e was is (inr (least, may, inr (sought, slot, inl merge))) a b c d = c merge.0
refused_as Honest old new e was is (inr (least, may, inr (sought, slot, inr change))) a b c d = d change.1 change.4

state_of_turn : (Honest : Type 0) (old new : Held) (e : StateFault) (was is : Told) → IsGatherRefusal Honest old new (gather.State e) was is → IsOfInstalling e
state_of_turn Honest old new state.OutOfMemory was is r = tt
state_of_turn Honest old new (state.Shelf fault) was is r = tt
state_of_turn Honest old new state.Halted was is r = tt
state_of_turn Honest old new state.NumbersSpent was is r = tt
state_of_turn Honest old new state.Stale was is r = tt
state_of_turn Honest old new state.SlotsHeld was is r = tt
state_of_turn Honest old new state.VersionsSpent was is r = tt
state_of_turn Honest old new (state.Read fault) was is r = absurd (refused_as Honest old new (state.Read fault) was is r (λ x. x) (λ x. x) (λ x. cc) (λ mid x. x))
state_of_turn Honest old new (state.BadLevel n) was is r = absurd (refused_as Honest old new (state.BadLevel n) was is r (λ x. x) (λ x. x) (λ x. cc) (λ mid x. x))
state_of_turn Honest old new state.EmptyBatch was is r = absurd (refused_as Honest old new state.EmptyBatch was is r (λ x. x) (λ x. x) (λ x. cc) (λ mid x. x))
state_of_turn Honest old new (state.KeyOrder n) was is r = absurd (refused_as Honest old new (state.KeyOrder n) was is r (λ x. x) (λ x. x) (λ x. cc) (λ mid x. x))
state_of_turn Honest old new state.TooLarge was is r = absurd (refused_as Honest old new state.TooLarge was is r (λ x. x) (λ x. x) (λ x. cc) (λ mid x. x))
state_of_turn Honest old new state.LevelZeroFull was is r = absurd (refused_as Honest old new state.LevelZeroFull was is r (λ x. x) (λ x. x) (λ x. cc) (λ mid x. x))
state_of_turn Honest old new state.SequencesSpent was is r = absurd (refused_as Honest old new state.SequencesSpent was is r (λ x. x) (λ x. x) (λ x. cc) (λ mid x. x))
state_of_turn Honest old new (state.UnknownSnapshot n) was is r = absurd (refused_as Honest old new (state.UnknownSnapshot n) was is r (λ x. x) (λ x. x) (λ x. cc) (λ mid x. x))
state_of_turn Honest old new (state.Conflict n) was is r = absurd (refused_as Honest old new (state.Conflict n) was is r (λ x. x) (λ x. x) (λ x. cc) (λ mid x. x))
state_of_turn Honest old new (state.UnknownTicket n) was is r = absurd (refused_as Honest old new (state.UnknownTicket n) was is r (λ x. x) (λ x. x) (λ x. cc) (λ mid x. x))
state_of_turn Honest old new state.PinsSpent was is r = absurd (refused_as Honest old new state.PinsSpent was is r (λ x. x) (λ x. x) (λ x. cc) (λ mid x. x))

merge_of_turn : (Honest : Type 0) (old new : Held) (e : MergeFault) (was is : Told) → IsGatherRefusal Honest old new (gather.Merge e) was is → Honest → IsReadable e
merge_of_turn Honest old new e was is (inl once) = absurd once.0
merge_of_turn Honest old new e was is (inr (least, may, inl lacks)) = absurd lacks
merge_of_turn Honest old new e was is (inr (least, may, inr (sought, slot, inl merge))) = merge.1.readable
merge_of_turn Honest old new e was is (inr (least, may, inr (sought, slot, inr change))) = absurd change

pub of_turn : (Honest : Type 0) (old new : Held) (e : GatherFault) (was is : Told) → IsGatherRefusal Honest old new e was is → IsOfTurn Honest (of_gather e)
of_turn Honest old new (gather.State e) was is refusal = state_of_turn Honest old new e was is refusal
of_turn Honest old new (gather.Merge e) was is refusal = merge_of_turn Honest old new e was is refusal

-- ---- looks

-- what was done at a look, where the fact held before it
pub looked_under : {N S R : Type 0} (Honest : Type 0) (keeps : Held → Type 0) (picks : Picks) (old new : Held) (l : Look N S R) (was is : Told) → ∥ keeps old ∥₁ → IsLook Honest picks old new l was is
    → LooksUnder Honest keeps picks l was is
looked_under Honest keeps picks old new look.Gathered was is kept g = record { does = g.0; old = old; new = new; kept = kept; number = g.1.0; gathers = g.1.1 }
looked_under Honest keeps picks old new (look.Reserved work) was is kept n = (record { found = old; kept = kept; none_to_gather = n.0; picked = n.1 }, n.3)
looked_under Honest keeps picks old new look.Nothing was is kept n = (record { found = old; kept = kept; none_to_gather = n.0; picked = n.1 }, n.3)

-- and why it was refused
pub refused_under : (Honest : Type 0) (Refused : Asked → ShelfFault → Type 0) (keeps : Held → Type 0) (picks : Picks) (old new : Held) (e : WorkerFault) (was is : Told) → ∥ keeps old ∥₁
    → IsLookRefused Honest Refused picks old new e was is → IsStoppedBy Honest Refused keeps picks e was is
refused_under Honest Refused keeps picks old new e was is kept (inl r) =
    inl (subst (λ (f : WorkerFault). IsUndone Honest Refused keeps f was is) (sym r.1) (inl (r.2, r.4)))
refused_under Honest Refused keeps picks old new e was is kept (inr r) =
    inr (r.0, r.1, record { does = r.2; old = old; new = new; kept = kept; refusal = r.3; asked = r.4 })

reserving_ends : (e : StateFault) → IsOfReserving e → IsOfInstalling e
reserving_ends state.OutOfMemory r = tt
reserving_ends state.Halted r = tt
reserving_ends state.NumbersSpent r = tt
reserving_ends (state.Shelf fault) r = absurd r
reserving_ends (state.Read fault) r = absurd r
reserving_ends (state.BadLevel n) r = absurd r
reserving_ends state.EmptyBatch r = absurd r
reserving_ends (state.KeyOrder n) r = absurd r
reserving_ends state.TooLarge r = absurd r
reserving_ends state.LevelZeroFull r = absurd r
reserving_ends state.SequencesSpent r = absurd r
reserving_ends (state.UnknownSnapshot n) r = absurd r
reserving_ends (state.Conflict n) r = absurd r
reserving_ends (state.UnknownTicket n) r = absurd r
reserving_ends state.Stale r = absurd r
reserving_ends state.SlotsHeld r = absurd r
reserving_ends state.VersionsSpent r = absurd r
reserving_ends state.PinsSpent r = absurd r

-- which refusals these are
pub refused_turn : (Honest : Type 0) (Refused : Asked → ShelfFault → Type 0) (picks : Picks) (old new : Held) (e : WorkerFault) (was is : Told)
    → IsLookRefused Honest Refused picks old new e was is → IsOfTurn Honest e
refused_turn Honest Refused picks old new e was is (inl r) = subst (IsOfTurn Honest) (sym r.1) (reserving_ends r.0 r.2)
refused_turn Honest Refused picks old new e was is (inr r) = subst (IsOfTurn Honest) (sym r.1) (of_turn Honest old new r.0 was is r.3)

-- ---- outcomes

pub on_ok_then : {T E : Type 0} (r : Result T E) (A B : Type 0) → (A → B) → OnOk r A → OnOk r B
on_ok_then (Ok x) A B f a = f a
on_ok_then (Err e) A B f a = tt

-- ---- threads, the last one first

last_first : {T S : Type 0} (f : T → S) (ts : List T) (t : T) → reverse (map f (ts ++ t ∷ [])) ≡ f t ∷ reverse (map f ts)
last_first f ts t = ap (λ (xs : List _). reverse xs) (map-append f ts (t ∷ [])) ∙ reverse-append (map f ts) (f t ∷ [])

-- none was started yet
pub started_none : {T S : Type 0} (f : T → S) (threads : List T) (left : List S) → length threads ≡ 0 → left ++ reverse (map f threads) ≡ left
started_none f threads left none = ap (λ (ts : List _). left ++ reverse (map f ts)) (nil_from_length threads none) ∙ append-nil left

-- one thread more was started, over the last shelf
pub started_one_more : {T S : Type 0} (f : T → S) (left left' : List S) (threads threads' : List T) (x : S) (t : T) (all : List S) → left ++ reverse (map f threads) ≡ all → left ≡ left' ++ x ∷ []
    → threads' ≡ threads ++ t ∷ [] → f t ≡ x → left' ++ reverse (map f threads') ≡ all
started_one_more f left left' threads threads' x t all before pop push of =
    ap (λ (ts : List _). left' ++ reverse (map f ts)) push ∙ ap (λ (xs : List _). left' ++ xs) (last_first f threads t) ∙ ap (λ (y : _). left' ++ y ∷ reverse (map f threads)) of
    ∙ sym (append_assoc left' (x ∷ []) (reverse (map f threads))) ∙ ap (λ (xs : List _). xs ++ reverse (map f threads)) (sym pop) ∙ before

-- the last thread was joined
pub joined_one_more : {T S : Type 0} (f : T → S) (done : List S) (threads threads' : List T) (t : T) (all : List S) → done ++ reverse (map f threads) ≡ all → threads ≡ threads' ++ t ∷ []
    → (done ++ f t ∷ []) ++ reverse (map f threads') ≡ all
joined_one_more f done threads threads' t all before pop =
    append_assoc done (f t ∷ []) (reverse (map f threads')) ∙ ap (λ (xs : List _). done ++ xs) (sym (last_first f threads' t)) ∙ ap (λ (ts : List _). done ++ reverse (map f ts)) (sym pop) ∙ before
