-- What calls of a state leave of its answers, and of the tables that it keeps.
use Rattle.std.proofs.Common.{◌≡◌, ℕ, ◌≤◌, Bool, false, true, List, ◌++◌, Option, None, Some, Result, Ok, Err, refl, sym, ap, ◌∙◌, subst, inl, inr, arith}
use Rattle.std.specs.Prelude.{IfNone, IfOk, IfSome, IsTrue, OnErr, OnOk, ◌↔◌, ◌==◌, not}
use Rattle.std.proofs.lemmas.Bool.{eq-eqb}
use Rattle.lsm_codec.specs.Keys.{UserKey}
use Rattle.lsm_codec.specs.Lists.{Has}
use Rattle.lsm_codec.specs.Entries.{Entry, answer, value_in}
use Rattle.lsm_codec.proofs.CallerLemmas.{any_at, filter_has}
use Rattle.lsm_model.specs.Law.{Books, Law}
use Rattle.lsm_model.specs.Plain.{Ingests, IsReadable, Plain, Spends}
use Rattle.lsm_model.specs.Runs.{Agrees}
use Rattle.lsm_shelf.specs.Told.{Told}
use Rattle.lsm_slots.specs.Snapshots.{Taken}
use Rattle.lsm_state.specs.Collecting.{AreCollected, IsKeptNumber, IsRemovedOrKept, is_in, outside}
use Rattle.lsm_state.specs.Gathering.{IsGathering}
use Rattle.lsm_state.specs.Held.{Held, plain}
use Rattle.lsm_store.specs.Compacting.{IsLeftByWorkers}
use Rattle.lsm_store.specs.Readers.{IsMet, Learnt}
use Rattle.lsm_version.specs.Versions.{numbers_in}
use Rattle.lsm_theorems.specs.Unchanged.{IsUnchanged, read_of}
use Rattle.lsm_theorems.proofs.ReadLaws.{later_unseen}

-- ---- an ingest, and the snapshots that were live before it

snapshot_so : (was is : Held) (new : List Entry) → Ingests (plain was) new (plain is) → is.history ≡ new ++ was.history → Books (plain was)
    → Agrees (plain was) was.history → Agrees (plain is) is.history → (id seq : ℕ) (k : UserKey) → Has was.snapshots.taken (id, seq) → read_of is k seq ≡ read_of was k seq
snapshot_so was is new i history books before after id seq k has =
    let there : Has is.snapshots.taken (id, seq) = subst (λ (x : Plain). Has x.snapshots (id, seq)) (sym i.is) has in
    let early : seq ≤ was.slots.version.last = books.snapshots (id, seq) has in
    let unseen = later_unseen k seq new was.history (λ e h. omega (arith, early, i.above e h)) in
    after.reads k seq (inr ((id, seq), there, refl)) ∙ (ap (λ (es : List Entry). answer es k seq) history ∙ (ap value_in unseen ∙ sym (before.reads k seq (inr ((id, seq), has, refl)))))

pub snapshots_so : {T E : Type 0} (H : Type 0) (r : Result T E) (was is : Held) (new : List Entry) → OnOk r (Ingests (plain was) new (plain is)) → OnOk r (is.history ≡ new ++ was.history) → Law H (plain was)
    → (H → Agrees (plain was) was.history) → (H → Agrees (plain is) is.history) → H → OnOk r ((id seq : ℕ) (k : UserKey) → Has was.snapshots.taken (id, seq) → read_of is k seq ≡ read_of was k seq)
snapshots_so H (Ok v) was is new i history law before after fair = snapshot_so was is new i history law.books (before fair) (after fair)
snapshots_so H (Err e) was is new i history law before after fair = tt

-- ---- files that become one

-- nothing came in, and the machine's last sequence and snapshots are the same
unchanged_so : (H : Type 0) (old new : Held) → new.history ≡ old.history → (plain new).last ≡ (plain old).last → (plain new).snapshots ≡ (plain old).snapshots
    → (H → Agrees (plain old) old.history) → (H → Agrees (plain new) new.history) → IsUnchanged H old new
unchanged_so H old new history last snapshots before after = record {
  history = history;
  last = last;
  snapshots = snapshots;
  reads = λ fair k seq readable. (after fair).reads k seq (still seq readable) ∙ (ap (λ (es : List Entry). answer es k seq) history ∙ sym ((before fair).reads k seq readable));
}
  where
    still : (seq : ℕ) → IsReadable (plain old) seq → IsReadable (plain new) seq
    still seq (inl e) = inl (e ∙ sym last)
    still seq (inr (p, h, is)) = inr (p, subst (λ (ps : List (ℕ × ℕ)). Has ps p) (sym snapshots) h, is)

pub gathered_so : {E : Type 0} (H : Type 0) (r : Result (Option ℕ) E) (old new : Held) (Same : Type 0) → IfOk r (λ o. IfSome o (λ n. IsGathering H old new)) → IfOk r (λ o. IfNone o ((new ≡ old) × Same))
    → OnErr r (Spends (plain old) (plain new)) → new.history ≡ old.history → (H → Agrees (plain old) old.history) → (H → Agrees (plain new) new.history) → IsUnchanged H old new
gathered_so H (Ok (Some n)) old new Same event none err history before after = unchanged_so H old new history (ap (λ (p : Plain). p.last) event.is) (ap (λ (p : Plain). p.snapshots) event.is) before after
gathered_so H (Ok None) old new Same event none err history before after = unchanged_so H old new history (ap (λ (h : Held). h.slots.version.last) none.0) (ap (λ (h : Held). h.snapshots.taken) none.0) before after
gathered_so H (Err e) old new Same event none err history before after = unchanged_so H old new history (ap (λ (p : Plain). p.last) err.2) (ap (λ (p : Plain). p.snapshots) err.2) before after

-- ---- workers

left_unchanged : (Honest : Type 0) (found left : Held) → IsLeftByWorkers Honest found left → IsUnchanged Honest found left
left_unchanged Honest found left l = record {
  history = l.as_found.history;
  last = l.as_found.last;
  snapshots = ap (λ (t : Taken). t.taken) l.as_found.snapshots;
  reads = l.as_found.answers;
}

pub left_so : (Honest : Type 0) (found h : Held)
    → ((found h : Held) → ∥ IsLeftByWorkers Honest found h ∥₁ → IsLeftByWorkers Honest found h)
    → ∥ IsLeftByWorkers Honest found h ∥₁ → IsUnchanged Honest found h
left_so Honest found h out kept = left_unchanged Honest found h (out found h kept)

-- ---- what is kept

removed_unkept : (h : Held) (kept listed : List ℕ) → ((n : ℕ) → Has kept n ↔ IsKeptNumber h n) → (n : ℕ) → Has (outside kept listed) n → IsKeptNumber h n → ⊥
removed_unkept h kept listed are n out k =
    let other = (filter_has (λ m. not (is_in kept m)) listed n out).1 in
    let found : is_in kept n ≡ true = any_at (λ m. m == n) kept n ((are n).1 k) (eq-eqb n n refl) in
    absurd (cc)

kept_apart : (h is : Held) (removed held : List ℕ) (was now : Told) → is ≡ record h { slots = record h.slots { board = is.slots.board } } → AreCollected h removed was now
    → ((n : ℕ) → Has held n → IsKeptNumber is n) → (n : ℕ) → Has removed n → Has held n → ⊥
kept_apart h is removed held was now rest c kept n gone there =
    let back : IsKeptNumber h n = subst (λ (x : Held). IsKeptNumber x n) rest (kept n there) in
    removed_unkept h c.kept c.listed c.kept_are n (subst (λ (ns : List ℕ). Has ns n) c.removed_are gone) back

-- what was removed, and what a view reads after that
pub kept_so : {V E W F : Type 0} (see : V → List ℕ) (its : W → List ℕ) (A B : Type 0) (r : Result V E) (m : Result W F) (h is : Held) (was now : Told) (v : Learnt)
    → IfOk r (λ x. A × B × AreCollected h (see x) was now) → IfOk m (λ w. (n : ℕ) → Has (its w) n → IsKeptNumber is n) → IfOk m (λ w. IsMet v is (its w))
    → is ≡ record h { slots = record h.slots { board = is.slots.board } }
    → IfOk r (λ x. OnOk m ((n : ℕ) → Has (numbers_in v.version) n → Has (see x) n → ⊥))
kept_so see its A B (Ok x) (Ok w) h is was now v c kept met rest =
    λ n read gone. kept_apart h is (see x) (its w) was now rest c.2 kept n gone (subst (λ (ns : List ℕ). Has ns n) (sym met.numbers_are) read)
kept_so see its A B (Ok x) (Err f) h is was now v c kept met rest = tt
kept_so see its A B (Err e) m h is was now v c kept met rest = tt

-- whether one table was removed, and what a view reads after that
pub one_kept_so : {E W F : Type 0} (its : W → List ℕ) (A : Bool → Type 0) (r : Result Bool E) (m : Result W F) (h is : Held) (number : ℕ) (was now : Told) (v : Learnt)
    → IfOk r (λ did. A did × IsRemovedOrKept h number did was now) → IfOk m (λ w. (n : ℕ) → Has (its w) n → IsKeptNumber is n) → IfOk m (λ w. IsMet v is (its w))
    → is ≡ record h { slots = record h.slots { board = is.slots.board } }
    → IfOk r (λ did. OnOk m (IsTrue did → Has (numbers_in v.version) number → ⊥))
one_kept_so its A (Ok true) (Ok w) h is number was now v c kept met rest =
    λ did read. c.1.0 (subst (λ (x : Held). IsKeptNumber x number) rest (kept number (subst (λ (ns : List ℕ). Has ns number) (sym met.numbers_are) read)))
one_kept_so its A (Ok false) (Ok w) h is number was now v c kept met rest = λ did read. absurd (let f : false ≡ true = did in cc)
one_kept_so its A (Ok did) (Err f) h is number was now v c kept met rest = tt
one_kept_so its A (Err e) m h is number was now v c kept met rest = tt
