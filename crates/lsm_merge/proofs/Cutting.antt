-- The outputs that the code cuts stand in the cut.
use Rattle.std.proofs.Common.{◌≡◌, ℕ, ◌<◌, Bool, true, false, cond, List, [], ◌∷◌, ◌++◌, refl, ◌∙◌, ap, subst, inl, inr, append_assoc}
use Rattle.std.specs.Prelude.{◌⊎◌, ◌&&◌, not, nat_le}
use Rattle.std.specs.List.{flat_map}
use Rattle.std.specs.Str.{bytes_eq}
use Rattle.std.proofs.lemmas.Bool.{and_parts, leb-true, leb-false}
use Rattle.lsm_codec.specs.Lists.{Has}
use Rattle.lsm_codec.specs.Keys.{UserKey}
use Rattle.lsm_codec.specs.Entries.{Entry}
use Rattle.lsm_codec.proofs.CallerLemmas.{key_from_test, test_from_key}
use Rattle.lsm_merge.specs.Cuts.{ends_with, is_empty, closes, cut_on, cut, HasNoCut, AreRightCuts, IsCutBy}

append_filled : (xs : List Entry) (e : Entry) → is_empty (xs ++ e ∷ []) ≡ false
append_filled [] e = refl
append_filled (x ∷ xs) e = refl

pub not_nothing : (xs : List Entry) → is_empty xs ≡ false → xs ≡ [] → ⊥
not_nothing [] h e = absurd (cc h)
not_nothing (x ∷ xs) h e = absurd (cc e)

-- the test of the last entry's key
pub ends_says : (front : List Entry) (x : Entry) (k : UserKey) → ends_with (front ++ x ∷ []) k ≡ bytes_eq x.user k
ends_says [] x k = refl
ends_says (y ∷ []) x k = refl
ends_says (y ∷ z ∷ front) x k = ends_says (z ∷ front) x k

-- where an output is not closed before e, e goes on in it
not_closed : (size : List Entry → ℕ) (target : ℕ) (front : List Entry) (x e : Entry) → closes size target (front ++ x ∷ []) e.user ≡ false → (x.user ≡ e.user) ⊎ (size (front ++ x ∷ []) < target)
not_closed size target front x e h = go (bytes_eq x.user e.user) refl
  where
    open_test : (a b c : Bool) → a ≡ false → b ≡ false → (not a && (not b && c)) ≡ false → c ≡ false
    open_test a b c ea eb t = cc

    go : (b : Bool) → bytes_eq x.user e.user ≡ b → (x.user ≡ e.user) ⊎ (size (front ++ x ∷ []) < target)
    go true t = inl (key_from_test x.user e.user t)
    go false t = inr (leb-false target (size (front ++ x ∷ []))
        (open_test (is_empty (front ++ x ∷ [])) (ends_with (front ++ x ∷ []) e.user) (nat_le target (size (front ++ x ∷ []))) (append_filled front x) (ends_says front x e.user ∙ t) h))

-- a list that ends in e, split before two entries
split_end : (xs : List Entry) (e : Entry) (front : List Entry) (x y : Entry) (back : List Entry) → xs ++ e ∷ [] ≡ front ++ x ∷ y ∷ back
    → ((rest : List Entry) × (xs ≡ front ++ x ∷ y ∷ rest)) ⊎ ((xs ≡ front ++ x ∷ []) × (e ≡ y))
split_end [] e [] x y back h = absurd (cc h)
split_end [] e (z ∷ []) x y back h = absurd (cc h)
split_end [] e (z ∷ w ∷ front) x y back h = absurd (cc h)
split_end (a ∷ []) e [] x y back h = inr ((cc h), (cc h))
split_end (a ∷ b ∷ xs) e [] x y back h = inl (xs, (cc h))
split_end (a ∷ xs) e (z ∷ front) x y back h = elim (split_end xs e front x y back (cc h)) [
  | inl r ↦ inl (r.0, (let k = r.1 in cc (h, k)))
  | inr r ↦ inr ((let k = r.0 in cc (h, k)), r.1)
]

no_cut_one : (size : List Entry → ℕ) (target : ℕ) (e : Entry) → HasNoCut size target (e ∷ [])
no_cut_one size target e [] x y back h = absurd (cc h)
no_cut_one size target e (z ∷ []) x y back h = absurd (cc h)
no_cut_one size target e (z ∷ w ∷ front) x y back h = absurd (cc h)

no_cut_more : (size : List Entry → ℕ) (target : ℕ) (output : List Entry) (e : Entry) → HasNoCut size target output → closes size target output e.user ≡ false → HasNoCut size target (output ++ e ∷ [])
no_cut_more size target output e own h front x y back is = elim (split_end output e front x y back is) [
  | inl r ↦ own front x y r.0 r.1
  | inr r ↦ subst (λ (w : Entry). (x.user ≡ w.user) ⊎ (size (front ++ x ∷ []) < target)) r.1 (not_closed size target front x e (subst (λ (o : List Entry). closes size target o e.user ≡ false) r.0 h))
]

-- the pieces, one after another, are what was there and what follows
pub cut_whole : (size : List Entry → ℕ) (target : ℕ) (output es : List Entry) → flat_map (λ o. o) (cut_on size target output es) ≡ output ++ es
cut_whole size target [] [] = refl
cut_whole size target (x ∷ xs) [] = refl
cut_whole size target output (e ∷ es) = go (closes size target output e.user) (cut_whole size target (e ∷ []) es) (cut_whole size target (output ++ e ∷ []) es)
  where
    go : (b : Bool) → flat_map (λ o. o) (cut_on size target (e ∷ []) es) ≡ e ∷ es → flat_map (λ o. o) (cut_on size target (output ++ e ∷ []) es) ≡ (output ++ e ∷ []) ++ es
        → flat_map (λ o. o) (cond b (output ∷ cut_on size target (e ∷ []) es) (cut_on size target (output ++ e ∷ []) es)) ≡ output ++ e ∷ es
    go true first on = ap (λ (l : List Entry). output ++ l) first
    go false first on = on ∙ append_assoc output (e ∷ []) es

-- each piece is filled and misses no cut
abbrev pub IsPiece : (List Entry → ℕ) → ℕ → List Entry → Type 0
IsPiece size target o = (is_empty o ≡ false) × HasNoCut size target o

cut_pieces : (size : List Entry → ℕ) (target : ℕ) (output es : List Entry) → HasNoCut size target output → (o : List Entry) → Has (cut_on size target output es) o → IsPiece size target o
cut_pieces size target [] [] own o h = absurd h
cut_pieces size target (x ∷ xs) [] own o (inl is) = subst (IsPiece size target) is (refl, own)
cut_pieces size target (x ∷ xs) [] own o (inr none) = absurd none
cut_pieces size target output (e ∷ es) own o h = go (closes size target output e.user) refl (λ k. cut_pieces size target (e ∷ []) es (no_cut_one size target e) o k) (λ c k. cut_pieces size target (output ++ e ∷ []) es (no_cut_more size target output e own c) o k) h
  where
    not_empty : closes size target output e.user ≡ true → is_empty output ≡ false
    not_empty t = bit (is_empty output) (and_parts (not (is_empty output)) (not (ends_with output e.user) && nat_le target (size output)) t).0
      where
        bit : (b : Bool) → not b ≡ true → b ≡ false
        bit true u = absurd (cc u)
        bit false u = refl

    go : (b : Bool) → closes size target output e.user ≡ b → (Has (cut_on size target (e ∷ []) es) o → IsPiece size target o)
        → (closes size target output e.user ≡ false → Has (cut_on size target (output ++ e ∷ []) es) o → IsPiece size target o)
        → Has (cond b (output ∷ cut_on size target (e ∷ []) es) (cut_on size target (output ++ e ∷ []) es)) o → IsPiece size target o
    go true t first on (inl is) = subst (IsPiece size target) is (not_empty t, own)
    go true t first on (inr k) = first k
    go false t first on k = on t k

-- the first piece begins with the unfinished output
abbrev pub BeginsWith : Entry → List (List Entry) → Type 0
BeginsWith x [] = ⊥
BeginsWith x ([] ∷ rest) = ⊥
BeginsWith x ((y ∷ ys) ∷ rest) = x ≡ y

cut_begins : (size : List Entry → ℕ) (target : ℕ) (x : Entry) (xs es : List Entry) → BeginsWith x (cut_on size target (x ∷ xs) es)
cut_begins size target x xs [] = refl
cut_begins size target x xs (e ∷ es) = go (closes size target (x ∷ xs) e.user) (cut_begins size target x (xs ++ e ∷ []) es)
  where
    go : (b : Bool) → BeginsWith x (cut_on size target (x ∷ xs ++ e ∷ []) es) → BeginsWith x (cond b ((x ∷ xs) ∷ cut_on size target (e ∷ []) es) (cut_on size target ((x ∷ xs) ++ e ∷ []) es))
    go true h = refl
    go false h = h

right_after : (size : List Entry → ℕ) (target : ℕ) (output : List Entry) (e : Entry) (rest : List (List Entry)) → closes size target output e.user ≡ true → BeginsWith e rest → AreRightCuts size target rest → AreRightCuts size target (output ∷ rest)
right_after size target output e [] t b r = absurd b
right_after size target output e ([] ∷ rest) t b r = absurd b
right_after size target output e ((y ∷ ys) ∷ rest) t b r = (
  λ front x w back is at. (
      let parts = and_parts (not (is_empty output)) (not (ends_with output e.user) && nat_le target (size output)) t in
      let both = and_parts (not (ends_with output e.user)) (nat_le target (size output)) parts.1 in
      ((λ same. differ front x is (subst (λ (v : Entry). x.user ≡ v.user) (let z : w ≡ e = (cc (at, b)) in z) same) both.0), leb-true target (size output) both.1)),
  r,
)
  where
    differ : (front : List Entry) (x : Entry) → output ≡ front ++ x ∷ [] → x.user ≡ e.user → not (ends_with output e.user) ≡ true → ⊥
    differ front x is same u =
        let last : ends_with output e.user ≡ true = ap (λ (o : List Entry). ends_with o e.user) is ∙ ends_says front x e.user ∙ test_from_key x.user e.user same in
        absurd (cc (ap not last, u))

cut_right : (size : List Entry → ℕ) (target : ℕ) (output es : List Entry) → AreRightCuts size target (cut_on size target output es)
cut_right size target [] [] = tt
cut_right size target (x ∷ xs) [] = tt
cut_right size target output (e ∷ es) = go (closes size target output e.user) refl (cut_right size target (e ∷ []) es) (cut_right size target (output ++ e ∷ []) es)
  where
    go : (b : Bool) → closes size target output e.user ≡ b → AreRightCuts size target (cut_on size target (e ∷ []) es) → AreRightCuts size target (cut_on size target (output ++ e ∷ []) es)
        → AreRightCuts size target (cond b (output ∷ cut_on size target (e ∷ []) es) (cut_on size target (output ++ e ∷ []) es))
    go true t first on = right_after size target output e (cut_on size target (e ∷ []) es) t (cut_begins size target e [] es) first
    go false t first on = on

no_cut_none : (size : List Entry → ℕ) (target : ℕ) → HasNoCut size target []
no_cut_none size target [] x y back h = absurd (cc h)
no_cut_none size target (z ∷ front) x y back h = absurd (cc h)

pub cut_is_cut : (size : List Entry → ℕ) (target : ℕ) (es : List Entry) → IsCutBy size target es (cut size target es)
cut_is_cut size target es = record {
  whole = cut_whole size target [] es;
  filled = λ o h. not_nothing o (cut_pieces size target [] es (no_cut_none size target) o h).0;
  no_cut_missing = λ o h. (cut_pieces size target [] es (no_cut_none size target) o h).1;
  right_cuts = cut_right size target [] es;
}
