-- What opening a database gives: the law of the state.
use Rattle.std.proofs.Common.{◌≡◌, ℕ, zero, suc, ◌+◌, ◌-◌, ◌^◌, ◌<◌, ◌≤◌, ◌==◌, Bool, false, true}
use Rattle.std.proofs.Common.{cond, None, replicate, List, [], ◌∷◌, map, refl, sym, ◌∙◌, ap, subst}
use Rattle.std.proofs.Common.{inl, inr, arith}
use Rattle.std.proofs.lemmas.Bool.{eq-eqb}
use Rattle.std.proofs.lemmas.List.Sums.{sum_by-cons}
use Rattle.std.specs.Prelude.{Result, Ok, Err, IfOk, IfErr}
use Rattle.atomic_table.specs.Seated.{TableId}
use Rattle.lsm_codec.specs.Entries.{Entry}
use Rattle.lsm_codec.specs.Lists.{Has}
use Rattle.lsm_codec.proofs.CallerLemmas.{all_at, flat_has, has_cases}
use Rattle.lsm_shelf.specs.Asked.{Asked}
use Rattle.lsm_shelf.specs.Told.{Told}
use Rattle.lsm_shelf.specs.declared.shelf_fault.ShelfFault.{ShelfFault}
use Rattle.lsm_pins.specs.Known.{Known}
use Rattle.lsm_pins.specs.Made.{IsNewPinner}
use Rattle.lsm_pins.specs.declared.view.View.{View}
use Rattle.lsm_model.specs.Files.{File, all_entries}
use Rattle.lsm_model.proofs.CallerLemmas.{one_each}
use Rattle.lsm_version.specs.FileNumbers.{AreDistinct, times}
use Rattle.lsm_version.specs.Versions.{IsSound, Levels, files, numbers_in}
use Rattle.lsm_model.specs.Law.{Books, Meaning}
use Rattle.lsm_model.specs.Runs.{Agrees}
use Rattle.lsm_slots.specs.Slots.{Slotted, first_slots, numbers_held}
use Rattle.lsm_slots.specs.Snapshots.{Taken}
use Rattle.lsm_live.specs.Booked.{Booked}
use Rattle.lsm_journal.specs.HeldManifest.{HeldManifest}
use Rattle.lsm_journal.specs.Recorded.{IsRecorded}
use Rattle.lsm_journal.specs.declared.open_fault.OpenFault.{OpenFault}
use Rattle.lsm_journal.specs.declared.open_fault.OpenFault.TheVariants as opening
use Rattle.lsm_state.specs.Held.{Held, IsLawfulState, plain}
use Rattle.lsm_state.specs.Making.{IsNewBoard}
use Rattle.lsm_journal.proofs.CallerLemmas.{found_below, found_recorded}
use Rattle.lsm_state.specs.Opening.{IsAnew, IsBegun, IsFound, IsNotAnew, IsOpenRefusal, IsOpenable}
use Rattle.lsm_state.specs.Opening.{IsReadOnce, opened_state}
use Rattle.lsm_state.specs.Options.{Fits}
use Rattle.lsm_state.specs.declared.options.Options.{Options}
use Rattle.lsm_state.proofs.Numbers.{has_map}
use Rattle.lsm_journal.specs.declared.manifest_limit.ManifestLimit.{ManifestLimit}

-- ---- numbers that stand once

times_more : (n a : ℕ) (xs : List ℕ) → times n (a ∷ xs) ≡ cond (a == n) 1 0 + times n xs
times_more n a xs = sum_by-cons (λ m. cond (m == n) 1 0) a xs

same_once : (a n : ℕ) → a ≡ n → ◌≡◌ {A = ℕ} (cond (a == n) 1 0) 1
same_once a n e = ap (λ (b : Bool). cond b 1 0) (eq-eqb a n e)

at_once : (n : ℕ) (xs : List ℕ) → Has xs n → 1 ≤ times n xs
at_once n [] h = absurd h
at_once n (a ∷ xs) (inl e) = let m = times_more n a xs in let s = same_once a n e in omega arith
at_once n (a ∷ xs) (inr h) = let m = times_more n a xs in let s = at_once n xs h in omega arith

alone : (a : ℕ) (xs : List ℕ) → AreDistinct (a ∷ xs) → Has xs a → ⊥
alone a xs d h = let few = d a in let m = times_more a a xs in let s = same_once a a refl in let k = at_once a xs h in omega arith

rest_distinct : (a : ℕ) (xs : List ℕ) → AreDistinct (a ∷ xs) → AreDistinct xs
rest_distinct a xs d n = let few = d n in let m = times_more n a xs in omega arith

one_number : (fs : List File) → AreDistinct (map (λ G. G.number) fs) → (F G : File) → Has fs F → Has fs G → F.number ≡ G.number → F ≡ G
one_number [] d F G f g e = absurd f
one_number (H ∷ fs) d F G (inl f) (inl g) e = sym f ∙ g
one_number (H ∷ fs) d F G (inl f) (inr g) e = absurd (alone H.number (map (λ K. K.number) fs) d
    (subst (λ n. Has (map (λ K. K.number) fs) n) (sym e ∙ ap (λ (K : File). K.number) (sym f)) (has_map (λ (K : File). K.number) fs G g)))
one_number (H ∷ fs) d F G (inr f) (inl g) e = absurd (alone H.number (map (λ K. K.number) fs) d
    (subst (λ n. Has (map (λ K. K.number) fs) n) (e ∙ ap (λ (K : File). K.number) (sym g)) (has_map (λ (K : File). K.number) fs F f)))
one_number (H ∷ fs) d F G (inr f) (inr g) e = one_number fs (rest_distinct H.number (map (λ K. K.number) fs) d) F G f g e

-- ---- the law of the state

opened_books : (o : Options) (publisher : Known) (pinners : List Known) (v : Levels) (j : HeldManifest) (next : ℕ) (halted : Bool)
    → AreDistinct (numbers_in v) → ((n : ℕ) → Has (numbers_in v) n → n < next) → Books (plain (opened_state o publisher pinners v j next halted))
opened_books o publisher pinners v j next halted own below = record {
  numbers = one_number (files v) own;
  below_next = λ F h. below F.number (has_map (λ (K : File). K.number) (files v) F h);
  drawn_below = λ a n h k. absurd h;
  drawn_fresh = λ a n F h k i e. absurd h;
  drawn_apart = λ a b n h k i m. absurd h;
  inputs = λ a F h k. absurd h;
  levels = λ a F h k. absurd h;
  tickets = λ a h. absurd h;
  one_each = λ a b h k e. absurd h;
  clear = λ a b h k e m. absurd h;
  floors = λ a h. absurd h;
  rising = tt;
  ids = λ p h. absurd h;
  snapshots = λ p h. absurd h;
}

opened_meaning : (o : Options) (publisher : Known) (pinners : List Known) (v : Levels) (j : HeldManifest) (next : ℕ) (halted : Bool)
    → IsSound v → Meaning (plain (opened_state o publisher pinners v j next halted))
opened_meaning o publisher pinners v j next halted sound = record {
  lawful = sound.lawful;
  reached = λ e h. (let r = flat_has (λ (F : File). F.entries) (files v) e h in sound.reached r.0 e r.1 r.2);
  are_open = λ a h. absurd h;
}

-- what the version holds is a history of it
opened_agrees : (o : Options) (publisher : Known) (pinners : List Known) (v : Levels) (j : HeldManifest) (next : ℕ) (halted : Bool)
    → IsSound v → Agrees (plain (opened_state o publisher pinners v j next halted)) (all_entries (files v))
opened_agrees o publisher pinners v j next halted sound =
    let m = opened_meaning o publisher pinners v j next halted sound in
    record { upto = m.reached; one = one_each (files v) m.lawful; reads = λ k q r. refl }

pub lawful_opened : (honest : Type 0) (board : TableId) (o : Options) (publisher : Known) (pinners : List Known) (v : Levels) (j : HeldManifest) (next : ℕ) (halted : Bool) (rest : ℕ)
    → Fits o → IsNewBoard board o publisher pinners → (honest → IsSound v) → IsRecorded rest j v next → (halted ≡ false → rest ≡ 0) → ((n : ℕ) → Has (numbers_in v) n → n < next)
    → IsLawfulState honest board (opened_state o publisher pinners v j next halted)
lawful_opened honest board o publisher pinners v j next halted rest fits new sound recorded whole below = record {
  law = record {
    books = opened_books o publisher pinners v j next halted recorded.own.numbers below;
    meaning = λ is. opened_meaning o publisher pinners v j next halted (sound is);
  };
  journaled = (rest, recorded, whole);
  below = λ n k. elim (has_cases (numbers_in v) (numbers_held (replicate (o.versions - 1) None)) n k) [
    | inl here ↦ below n here
    | inr later ↦ absurd (none_held (o.versions - 1) n later)
  ];
  pinners = λ p k. (let one = all_at (IsNewPinner board o.versions new.id) pinners p new.readers k in (one.at, ap (λ (w : View). w.held) one.knows));
  fits = fits;
  inputs = λ b k. absurd k;
  agrees = λ is. opened_agrees o publisher pinners v j next halted (sound is);
}
  where
    none_held : (m n : ℕ) → Has (numbers_held (replicate m None)) n → ⊥
    none_held zero n h = h
    none_held (suc m) n h = none_held m n h

-- the same of its parts, as they were made
pub opened_made : (honest : Type 0) (board : TableId) (o : Options) (publisher : Known) (pinners : List Known) (v : Levels) (j : HeldManifest) (next : ℕ) (halted : Bool) (s : Slotted) (taken : Taken)
    (live : List Booked) (es : List Entry) → s ≡ first_slots publisher o.versions v → taken ≡ record { taken = []; next = 1 } → live ≡ [] → es ≡ all_entries (files v)
    → IsLawfulState honest board (opened_state o publisher pinners v j next halted)
    → IsLawfulState honest board (record { options = o; slots = s; snapshots = taken; next = next; next_ticket = 1; live = live; journal = j; halted = halted; pinners = pinners; history = es })
opened_made honest board o publisher pinners v j next halted s taken live es a b c d l =
    let h : Held = opened_state o publisher pinners v j next halted in
    subst (λ (x : Slotted). IsLawfulState honest board (record h { slots = x; snapshots = taken; live = live; history = es })) (sym a)
    (subst (λ (x : Taken). IsLawfulState honest board (record h { snapshots = x; live = live; history = es })) (sym b)
    (subst (λ (x : List Booked). IsLawfulState honest board (record h { live = x; history = es })) (sym c)
    (subst (λ (x : List Entry). IsLawfulState honest board (record h { history = x })) (sym d) l)))

-- ---- a new manifest for it

-- a state that was opened for reading has these parts
pub parts_opened : (o : Options) (publisher : Known) (pinners : List Known) (s : Held) → s ≡ opened_state o publisher pinners s.slots.version s.journal s.next true
    → s ≡ opened_state s.options s.slots.board s.pinners s.slots.version s.journal s.next true
parts_opened o publisher pinners s e = e ∙ ap (λ (x : Held). opened_state x.options x.slots.board x.pinners s.slots.version s.journal s.next true) (sym e)

pub board_opened : (board : TableId) (o : Options) (publisher : Known) (pinners : List Known) (s : Held) → s ≡ opened_state o publisher pinners s.slots.version s.journal s.next true
    → IsNewBoard board o publisher pinners → IsNewBoard board s.options s.slots.board s.pinners
board_opened board o publisher pinners s e new = subst (λ (x : Held). IsNewBoard board x.options x.slots.board x.pinners) (sym e) new

pub state_opened : {E : Type 0} (r : Result Held E) (o : Options) (publisher : Known) (pinners : List Known) (s : Held) → s ≡ opened_state o publisher pinners s.slots.version s.journal s.next true
    → IfOk r (λ t. t ≡ opened_state s.options s.slots.board s.pinners s.slots.version t.journal t.next false)
    → IfOk r (λ t. t ≡ opened_state o publisher pinners t.slots.version t.journal t.next false)
state_opened (Ok t) o publisher pinners s e b =
    let q : t ≡ opened_state o publisher pinners s.slots.version t.journal t.next false =
    b ∙ ap (λ (x : Held). opened_state x.options x.slots.board x.pinners s.slots.version t.journal t.next false) e in
    q ∙ ap (λ (v : Levels). opened_state o publisher pinners v t.journal t.next false) (sym (ap (λ (x : Held). x.slots.version) q))
state_opened (Err x) o publisher pinners s e b = tt

-- ---- what was found, for a state to begin with

pub openable_found : (honest : Type 0) (limit : ManifestLimit) (h : HeldManifest) (v : Levels)
    (rest next : ℕ) (was is : Told) → IsFound honest limit h v rest next was is
    → IsOpenable honest h v rest next
openable_found honest limit h v rest next was is f = record {
  recorded = found_recorded honest limit h v rest next was is f;
  below = found_below honest limit h v rest next was is f;
  fits = f.fits;
  sound = f.loaded.sound;
}

-- a new manifest began for it
pub begun_anew : {E : Type 0} (r : Result Held E) (honest : Type 0) (limit : ManifestLimit)
    (o : Options) (publisher : Known) (pinners : List Known) (v : Levels) (h : HeldManifest)
    (rest next : ℕ) (was read is : Told) → IsFound honest limit h v rest next was read
    → IfOk r (λ t. IsAnew v next h t.journal t.next read is)
    → IfOk r (λ t. t ≡ opened_state o publisher pinners v t.journal t.next false)
    → IfOk r (λ t. IsBegun honest limit t.journal t.slots.version t.next was is)
begun_anew (Ok t) honest limit o publisher pinners v h rest next was read is found anew opened =
    subst (λ (w : Levels). IsBegun honest limit t.journal w t.next was is)
    (sym (ap (λ (x : Held). x.slots.version) opened)) (record {
      before = h;
      rest = rest;
      number = next;
      read = read;
      found = found;
      rolls = anew.rolls;
      after = anew.after;
      fits = anew.fits;
    })
begun_anew (Err x) honest limit o publisher pinners v h rest next was read is found anew opened = tt

-- or none did
pub refused_anew : {T : Type 0} (r : Result T OpenFault) (Stored : ℕ → List ℕ → Type 0)
    (Refused : Asked → ShelfFault → Type 0) (honest : Type 0) (limit : ManifestLimit) (s : Held)
    (rest : ℕ) (was read is : Told)
    → IsFound honest limit s.journal s.slots.version rest s.next was read
    → IfErr r (λ e. IsNotAnew Refused s.slots.version s.next s.journal e read is)
    → IfErr r (λ e. IsOpenRefusal Stored Refused honest limit e was is)
refused_anew (Ok x) Stored Refused honest limit s rest was read is found n = tt
refused_anew (Err (opening.Shelf e)) Stored Refused honest limit s rest was read is found n =
    inr (record {
      held = s.journal;
      version = s.slots.version;
      rest = rest;
      number = s.next;
      read = read;
      found = found;
      cause = n.0;
      asked = n.1;
      told = n.2;
    })
refused_anew (Err opening.NumbersSpent) Stored Refused honest limit s rest was read is found n =
    inr (record {
      held = s.journal;
      version = s.slots.version;
      rest = rest;
      found = subst (λ (t : Told). IsFound honest limit s.journal s.slots.version rest (2 ^ 64 - 1)
          was t) (sym n.1)
          (subst (λ (m : ℕ). IsFound honest limit s.journal s.slots.version rest m was read) n.0
          found);
    })
refused_anew (Err (opening.Recover e)) Stored Refused honest limit s rest was read is found n =
    absurd n
refused_anew (Err (opening.Check e)) Stored Refused honest limit s rest was read is found n =
    absurd n
refused_anew (Err opening.OutOfMemory) Stored Refused honest limit s rest was read is found n =
    absurd n

-- what refuses a new manifest is no refusal to read the one that is there
pub read_anew : {T : Type 0} (r : Result T OpenFault) (Refused : Asked → ShelfFault → Type 0)
    (v : Levels) (number : ℕ) (h : HeldManifest) (read is a b : Told)
    → IfErr r (λ e. IsNotAnew Refused v number h e read is) → IfErr r (λ e. IsReadOnce e a b)
read_anew (Ok x) Refused v number h read is a b n = tt
read_anew (Err (opening.Recover e)) Refused v number h read is a b n = absurd n
read_anew (Err (opening.Check e)) Refused v number h read is a b n = tt
read_anew (Err (opening.Shelf e)) Refused v number h read is a b n = tt
read_anew (Err opening.NumbersSpent) Refused v number h read is a b n = tt
read_anew (Err opening.OutOfMemory) Refused v number h read is a b n = tt
