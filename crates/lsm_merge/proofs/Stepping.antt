-- One step of a merge: the entry at hand is the first one that is left.
use Rattle.std.proofs.Common.{◌≡◌, ℕ, Bool, cond, List, [], ◌∷◌, Option, Some, None, refl, ◌∙◌, ap, subst}
use Rattle.std.specs.Prelude.{Result, Ok, Err, OnOk}
use Rattle.lsm_codec.specs.Keys.{InternalKey, UserKey}
use Rattle.lsm_codec.specs.Entries.{Entry, internal_key}
use Rattle.lsm_block.specs.Block.{entry_of}
use Rattle.lsm_model.specs.Merging.{Placed}
use Rattle.lsm_iterators.specs.Heads.{after_first, first_of, key_in, value_in}
use Rattle.lsm_iterators.specs.Runs.{Left}
use Rattle.lsm_merge.specs.Dropping.{Follows, is_kept, placed}
use Rattle.lsm_merge.specs.Inputs.{Stepped}
use Rattle.lsm_merge.specs.Outputs.{Goes, Made, making_of}
use Rattle.lsm_merge.specs.Remembered.{bare}
use Rattle.lsm_merge.specs.Work.{Work, finished}

pub first_entry : (ps : List Placed) (p : Placed) (rest : List Placed) (k : InternalKey) (v : List ℕ) → ps ≡ p ∷ rest
    → Some k ≡ key_in (first_of ps) → v ≡ value_in (first_of ps) → entry_of k v ≡ p.1
first_entry ps p rest k v is key value =
    let all : Some k ≡ Some (internal_key p.1) = key ∙ ap (λ (l : List Placed). key_in (first_of l)) is in
    let same : k ≡ internal_key p.1 = (cc all) in
    let own : v ≡ p.1.value = value ∙ ap (λ (l : List Placed). value_in (first_of l)) is in
    ap (λ (j : InternalKey). entry_of j v) same ∙ ap (λ (b : List ℕ). entry_of (internal_key p.1) b) own

-- whether an entry is kept does not hang on its value
pub value_apart : (floor : ℕ) (ranges : List (UserKey × UserKey)) (before : Option Entry) (k : InternalKey) (v : List ℕ)
    → is_kept floor ranges before (entry_of k []) ≡ is_kept floor ranges before (entry_of k v)
value_apart floor ranges None k v = refl
value_apart floor ranges (Some q) k v = refl

pub stepped : {A E : Type 0} (Honest : Type 0) (w : Work) (ps : List Placed) (p : Placed) (rest : List Placed) (before before' : Option Entry) (m m' : Made) (left' : Left) (r : Result A E)
    (k : InternalKey) (v : List ℕ) (kept : Bool) (floor : ℕ) (ranges : List (UserKey × UserKey)) → ps ≡ p ∷ rest
    → Some k ≡ key_in (first_of ps) → v ≡ value_in (first_of ps) → Follows before (entry_of k v)
    → kept ≡ is_kept floor ranges before (entry_of k []) → floor ≡ w.floor → ranges ≡ w.ranges
    → Goes m m' (cond kept (placed (finished m.options) m.target (making_of m) (entry_of k v)) (making_of m))
    → OnOk r (before' ≡ Some (entry_of k [])) → (Honest → OnOk r (left'.placed ≡ after_first ps))
    → OnOk r (Stepped Honest w p rest before before' m m' left')
stepped Honest w ps p rest before before' m m' left' (Err e) k v kept floor ranges is key value follows kept_is floor_is ranges_is goes before_is left = tt
stepped Honest w ps p rest before before' m m' left' (Ok x) k v kept floor ranges is key value follows kept_is floor_is ranges_is goes before_is left =
    let own : entry_of k v ≡ p.1 = first_entry ps p rest k v is key value in
    let test : kept ≡ is_kept w.floor w.ranges before (entry_of k v) = kept_is
    ∙ ap (λ (n : ℕ). is_kept n ranges before (entry_of k [])) floor_is
    ∙ ap (λ (l : List (UserKey × UserKey)). is_kept w.floor l before (entry_of k [])) ranges_is
    ∙ value_apart w.floor w.ranges before k v in
    record {
      follows = subst (Follows before) own follows;
      goes = subst (λ (e : Entry). Goes m m' (cond (is_kept w.floor w.ranges before e) (placed (finished m.options) m.target (making_of m) e) (making_of m))) own
          (subst (λ (b : Bool). Goes m m' (cond b (placed (finished m.options) m.target (making_of m) (entry_of k v)) (making_of m))) test goes);
      before_is = before_is ∙ ap (λ (e : Entry). Some (bare e)) own;
      left = λ honest. left honest ∙ ap after_first is;
    }
