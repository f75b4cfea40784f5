-- What is left of a sweep.
use Rattle.std.proofs.Common.{◌≡◌, ℕ, zero, suc, ◌+◌, ◌<◌, Bool, true, false, List, [], ◌∷◌, ◌++◌}
use Rattle.std.proofs.Common.{get_or, length, take, refl, sym, ap, ◌∙◌, subst, inl, inr, arith, ◌⊎◌}
use Rattle.std.specs.Prelude.{Err, None, Some}
use Rattle.std.proofs.lemmas.List.{append_assoc, take_more}
use Rattle.lsm_codec.proofs.CallerLemmas.{has_cases}
use Rattle.lsm_shelf.specs.Asked.{Asked, ListTables, Remove}
use Rattle.lsm_shelf.specs.Told.{Told, Becomes, forking, listing, next_fork, removed_by, removing}
use Rattle.lsm_shelf.specs.declared.shelf_fault.ShelfFault.{ShelfFault}
use Rattle.lsm_shelf.specs.declared.shelf_fault.ShelfFault.TheVariants as why
use Rattle.lsm_state.specs.Collecting.{HasLookedAround, IsKeptNumber, IsRemoveRefusal}
use Rattle.lsm_state.specs.Collecting.{IsRemovedOrKept}
use Rattle.lsm_state.specs.Held.{Held, plain}
use Rattle.lsm_state.specs.declared.state_fault.StateFault.{StateFault}
use Rattle.lsm_state.specs.declared.state_fault.StateFault.TheVariants.{OutOfMemory, Shelf, Read, BadLevel, EmptyBatch, KeyOrder, TooLarge, LevelZeroFull, SequencesSpent, Halted, UnknownSnapshot, Conflict, UnknownTicket, NumbersSpent, Stale, SlotsHeld, VersionsSpent, PinsSpent}
use Rattle.lsm_store.specs.Compacting.{IsCompactingStep}
use Rattle.lsm_store.specs.Sweeping.{HasSwept, IsSwept, IsSweptOften, IsUnkeptRemoval, LastForks}
use Rattle.lsm_store.specs.Sweeping.{Leaves, OnlyRemoves, Removes, RemovesEach, TriesToRemove}
use Rattle.lsm_store.proofs.CompactingLaws.{adds_looked, found_looked, step_none}

-- ---- looks under the lock

pub step_looked : (Honest : Type 0) (was is : Held) → is ≡ record was { slots = is.slots } → plain is ≡ plain was → HasLookedAround was is → IsCompactingStep Honest was is
step_looked Honest was is rest event around = record {
  run = record { events = []; only = λ e h. absurd h; run = event; ids = (let same = around.looked.id in omega (arith, same)) };
  options = ap (λ (h : Held). h.options) rest;
  pinners = ap (λ (h : Held). h.pinners) rest;
  found = found_looked Honest was is around.looked rest;
  slots = adds_looked was.slots is.slots around.looked;
}

pub step_looked_or_not : (Honest : Type 0) (was is : Held) (e : StateFault) → is ≡ record was { slots = is.slots } → plain is ≡ plain was
    → ((e ≡ Halted) × (was.halted ≡ true) × (is ≡ was)) ⊎ ((e ≡ OutOfMemory) × (was.halted ≡ false) × HasLookedAround was is) → IsCompactingStep Honest was is
step_looked_or_not Honest was is e rest event (inl halted) = step_none Honest was is halted.2
step_looked_or_not Honest was is e rest event (inr looked) = step_looked Honest was is rest event looked.2

-- ---- removals

pub tried_ok : (h : Held) (n : ℕ) (did : Bool) (was is : Told) → IsRemovedOrKept h n did was is → TriesToRemove h n was is
tried_ok h n did was is r = inl (did, r)

pub tried_err : (h : Held) (n : ℕ) (e : StateFault) (was is : Told) → IsRemoveRefusal h n e was is → TriesToRemove h n was is
tried_err h n e was is r = inr (e, r)

-- one table more
pub removes_more : (keeps : Held → Type 0) (ns : List ℕ) (n : ℕ) (was mid is : Told) → RemovesEach keeps ns was mid → Removes keeps n mid is → RemovesEach keeps (ns ++ n ∷ []) was is
removes_more keeps [] n was mid is e one = (is, subst (λ (t : Told). Removes keeps n t is) e one, refl)
removes_more keeps (m ∷ ns) n was mid is r one = (r.0, r.1, removes_more keeps ns n r.0 mid is r.2 one)

-- so with the front of these numbers
pub removes_next : (keeps : Held → Type 0) (ns : List ℕ) (i n : ℕ) (was mid is : Told) → i < length ns → get_or ns i 0 ≡ n → RemovesEach keeps (take i ns) was mid → Removes keeps n mid is
    → RemovesEach keeps (take (i + 1) ns) was is
removes_next keeps ns i n was mid is lt e before one =
    subst (λ (l : List ℕ). RemovesEach keeps l was is) (sym (take_more ns i 0 lt ∙ ap (λ m. take i ns ++ m ∷ []) e)) (removes_more keeps (take i ns) n was mid is before one)

-- tables could not be listed
pub swept_unlisted : (Refused : Asked → ShelfFault → Type 0) (keeps : Held → Type 0) (fault : ShelfFault) (was is : Told) → Refused ListTables fault → Becomes was is → IsSwept Refused keeps was is
swept_unlisted Refused keeps fault was is refused b = inl (fault, refused, b)

-- they were listed, and those that were not kept were removed
pub swept_listed : (Refused : Asked → ShelfFault → Type 0) (keeps : Held → Type 0) (listed left : List ℕ) (was mid is : Told) → Becomes (listing listed was) mid → Leaves keeps listed left
    → RemovesEach keeps left mid is → IsSwept Refused keeps was is
swept_listed Refused keeps listed left was mid is told leaves removes = inr record { listed = listed; mid = mid; told = told; left = left; leaves = leaves; removes = removes }

-- one sweep more
pub swept_more : (Refused : Asked → ShelfFault → Type 0) (keeps : Held → Type 0) (was mid is : Told) → HasSwept Refused keeps was mid → IsSwept Refused keeps mid is → HasSwept Refused keeps was is
swept_more Refused keeps was mid is before one = (suc before.0, (mid, before.1, one))

-- ---- a fork of the last shelf

pub none_lent : (given lent : List Told) → given ≡ [] → lent ≡ [] → LastForks given lent None
none_lent given lent a b = inl (a, b)

pub last_lent : (given lent front : List Told) (was is fork : Told) → given ≡ front ++ was ∷ []
    → lent ≡ front ++ is ∷ [] → Becomes (forking 1 was) is → fork ≡ next_fork was
    → LastForks given lent (Some fork)
last_lent given lent front was is fork a b c f =
    record { front = front; was = was; is = is; before = a; behind = b; became = (c, f) }

pub unlent : (given lent front : List Told) (was is : Told) → given ≡ front ++ was ∷ [] → lent
    ≡ front ++ is ∷ [] → Becomes was is → LastForks given lent None
unlent given lent front was is a b c = inr record {
  front = front;
  was = was;
  is = is;
  before = a;
  behind = b;
  became = c;
}

-- ---- what follows of sweeps

only_none : (keeps : Held → Type 0) (t : Told) → OnlyRemoves keeps t t
only_none keeps t = record { place = refl; puts = refl; manifest = refl; sent = refl; found = refl; starts = refl; written = refl; forks = refl; faults = omega arith; misses = omega arith; calls = []; made = refl; each = λ a h. absurd h }

only_then : (keeps : Held → Type 0) (a b c : Told) → OnlyRemoves keeps a b → OnlyRemoves keeps b c → OnlyRemoves keeps a c
only_then keeps a b c p q = record {
  place = q.place ∙ p.place;
  puts = q.puts ∙ p.puts;
  manifest = q.manifest ∙ p.manifest;
  sent = q.sent ∙ p.sent;
  found = q.found ∙ p.found;
  starts = q.starts ∙ p.starts;
  written = q.written ∙ p.written;
  forks = q.forks ∙ p.forks;
  faults = (let x = p.faults in let y = q.faults in omega arith);
  misses = (let x = p.misses in let y = q.misses in omega arith);
  calls = q.calls ++ p.calls;
  made = q.made ∙ ap (λ (m : List Asked). q.calls ++ m) p.made ∙ sym (append_assoc q.calls p.calls a.made);
  each = λ x h. elim (has_cases q.calls p.calls x h) [ inl l ↦ q.each x l | inr r ↦ p.each x r ];
}

only_same : (keeps : Held → Type 0) (was is : Told) → is ≡ was → OnlyRemoves keeps was is
only_same keeps was is e = subst (λ (t : Told). OnlyRemoves keeps was t) (sym e) (only_none keeps was)

-- no call that changes what lies there
only_becomes : (keeps : Held → Type 0) (was is : Told) → Becomes was is → OnlyRemoves keeps was is
only_becomes keeps was is b = record {
  place = b.place;
  puts = b.puts;
  manifest = b.manifest;
  sent = b.sent;
  found = b.found;
  starts = b.starts;
  written = b.written;
  forks = b.forks;
  faults = b.faults;
  misses = b.misses;
  calls = [];
  made = b.made;
  each = λ a h. absurd h;
}

only_listed : (keeps : Held → Type 0) (listed : List ℕ) (was is : Told) → Becomes (listing listed was) is → OnlyRemoves keeps was is
only_listed keeps listed was is b = record {
  place = b.place;
  puts = b.puts;
  manifest = b.manifest;
  sent = b.sent;
  found = b.found;
  starts = b.starts;
  written = b.written;
  forks = b.forks;
  faults = b.faults;
  misses = b.misses;
  calls = [];
  made = b.made;
  each = λ a h. absurd h;
}

only_removed : (keeps : Held → Type 0) (found : Held) (n : ℕ) (was is : Told) → ∥ keeps found ∥₁ → (IsKeptNumber found n → ⊥) → Becomes (removing n was) is → OnlyRemoves keeps was is
only_removed keeps found n was is kept free b = record {
  place = b.place;
  puts = b.puts;
  manifest = b.manifest;
  sent = b.sent;
  found = b.found;
  starts = b.starts;
  written = b.written;
  forks = b.forks;
  faults = b.faults;
  misses = b.misses;
  calls = Remove n ∷ [];
  made = b.made;
  each = λ a h. elim h [ inl e ↦ subst (IsUnkeptRemoval keeps) e (found, kept, free) | inr t ↦ absurd t ];
}

only_asked : (keeps : Held → Type 0) (found : Held) (n : ℕ) (fault : ShelfFault) (was is : Told) → ∥ keeps found ∥₁ → (IsKeptNumber found n → ⊥)
    → Becomes (removed_by {T = Unit {0}} (Err fault) n was) is → OnlyRemoves keeps was is
only_asked keeps found n why.OutOfMemory was is kept free b = only_becomes keeps was is b
only_asked keeps found n why.Device was is kept free b = only_removed keeps found n was is kept free b
only_asked keeps found n why.Missing was is kept free b = only_removed keeps found n was is kept free b
only_asked keeps found n (why.Taken m) was is kept free b = only_removed keeps found n was is kept free b

only_refused : (keeps : Held → Type 0) (found : Held) (n : ℕ) (e : StateFault) (was is : Told) → ∥ keeps found ∥₁ → IsRemoveRefusal found n e was is → OnlyRemoves keeps was is
only_refused keeps found n OutOfMemory was is kept r = only_same keeps was is r.1
only_refused keeps found n (Shelf f) was is kept r = only_asked keeps found n f was is kept r.1 r.2
only_refused keeps found n (Read f) was is kept r = absurd r
only_refused keeps found n (BadLevel m) was is kept r = absurd r
only_refused keeps found n EmptyBatch was is kept r = absurd r
only_refused keeps found n (KeyOrder m) was is kept r = absurd r
only_refused keeps found n TooLarge was is kept r = absurd r
only_refused keeps found n LevelZeroFull was is kept r = absurd r
only_refused keeps found n SequencesSpent was is kept r = absurd r
only_refused keeps found n Halted was is kept r = only_same keeps was is r.1
only_refused keeps found n (UnknownSnapshot m) was is kept r = absurd r
only_refused keeps found n (Conflict m) was is kept r = absurd r
only_refused keeps found n (UnknownTicket m) was is kept r = absurd r
only_refused keeps found n NumbersSpent was is kept r = absurd r
only_refused keeps found n Stale was is kept r = absurd r
only_refused keeps found n SlotsHeld was is kept r = absurd r
only_refused keeps found n VersionsSpent was is kept r = absurd r
only_refused keeps found n PinsSpent was is kept r = absurd r

only_answered : (keeps : Held → Type 0) (found : Held) (n : ℕ) (did : Bool) (was is : Told) → ∥ keeps found ∥₁ → IsRemovedOrKept found n did was is → OnlyRemoves keeps was is
only_answered keeps found n true was is kept r = only_removed keeps found n was is kept r.0 r.1
only_answered keeps found n false was is kept r = only_same keeps was is r.1

only_one : (keeps : Held → Type 0) (n : ℕ) (was is : Told) → Removes keeps n was is → OnlyRemoves keeps was is
only_one keeps n was is r = elim r.tried [
  | inl done ↦ only_answered keeps r.found n done.0 was is r.kept done.1
  | inr refused ↦ only_refused keeps r.found n refused.0 was is r.kept refused.1
]

only_each : (keeps : Held → Type 0) (ns : List ℕ) (was is : Told) → RemovesEach keeps ns was is → OnlyRemoves keeps was is
only_each keeps [] was is e = only_same keeps was is e
only_each keeps (n ∷ ns) was is r = only_then keeps was r.0 is (only_one keeps n was r.0 r.1) (only_each keeps ns r.0 is r.2)

only_swept : (Refused : Asked → ShelfFault → Type 0) (keeps : Held → Type 0) (was is : Told) → IsSwept Refused keeps was is → OnlyRemoves keeps was is
only_swept Refused keeps was is (inl refused) = only_becomes keeps was is refused.2
only_swept Refused keeps was is (inr s) = only_then keeps was s.mid is (only_listed keeps s.listed was s.mid s.told) (only_each keeps s.left s.mid is s.removes)

only_often : (Refused : Asked → ShelfFault → Type 0) (keeps : Held → Type 0) (count : ℕ) (was is : Told) → IsSweptOften Refused keeps count was is → OnlyRemoves keeps was is
only_often Refused keeps zero was is e = only_same keeps was is e
only_often Refused keeps (suc count) was is r = only_then keeps was r.0 is (only_often Refused keeps count was r.0 r.1) (only_swept Refused keeps r.0 is r.2)

pub only_has_swept : (Refused : Asked → ShelfFault → Type 0) (keeps : Held → Type 0) (was is : Told) → HasSwept Refused keeps was is → OnlyRemoves keeps was is
only_has_swept Refused keeps was is s = only_often Refused keeps s.0 was is s.1
