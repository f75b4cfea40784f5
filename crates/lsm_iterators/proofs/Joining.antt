-- A merge of merges is one merge: sources may be merged two at a time, in any nesting.
use Rattle.std.proofs.Common.{◌≡◌, zero, suc, ℕ, ◌+◌, ◌≤◌, Bool, true, false, List, [], ◌∷◌, length, refl, sym, ◌∙◌, ap, arith}
use Rattle.lsm_model.specs.Merging.{Placed, goes_first, leads, merge}
use Rattle.lsm_model.proofs.CallerLemmas.{first_trans, first_total, merge_left, merge_right, merge_empty, leads_merge}

-- where the first of the first list goes before the first of the second, and that goes first of the
-- merge of the last two
merge_joins : (n : ℕ) (xs ys zs : List Placed) → length xs + length ys + length zs ≤ n → merge (merge xs ys) zs ≡ merge xs (merge ys zs)
merge_joins n [] ys zs le = refl
merge_joins n (x ∷ xs) [] zs le = ap (λ (l : List Placed). merge l zs) (merge_empty (x ∷ xs))
merge_joins n (x ∷ xs) (y ∷ ys) [] le = merge_empty (merge (x ∷ xs) (y ∷ ys)) ∙ ap (λ (l : List Placed). merge (x ∷ xs) l) (sym (merge_empty (y ∷ ys)))
merge_joins zero (x ∷ xs) (y ∷ ys) (z ∷ zs) le = absurd (omega arith)
merge_joins (suc n) (x ∷ xs) (y ∷ ys) (z ∷ zs) le = go (goes_first x.1 y.1) refl (goes_first x.1 z.1) refl (goes_first y.1 z.1) refl
    (merge_joins n xs (y ∷ ys) (z ∷ zs) (omega arith)) (merge_joins n (x ∷ xs) ys (z ∷ zs) (omega arith)) (merge_joins n (x ∷ xs) (y ∷ ys) zs (omega arith))
  where
    -- the last list's first goes before both
    third : (goes_first x.1 z.1 ≡ false) → (goes_first y.1 z.1 ≡ false) → leads (merge (x ∷ xs) (y ∷ ys)) (z ∷ zs) ≡ false
        → merge (merge (x ∷ xs) (y ∷ ys)) zs ≡ merge (x ∷ xs) (merge (y ∷ ys) zs) → merge (merge (x ∷ xs) (y ∷ ys)) (z ∷ zs) ≡ merge (x ∷ xs) (merge (y ∷ ys) (z ∷ zs))
    third xz yz led ih =
        merge_right (merge (x ∷ xs) (y ∷ ys)) z zs led ∙ ap (λ (l : List Placed). z ∷ l) ih
        ∙ sym (ap (λ (l : List Placed). merge (x ∷ xs) l) (merge_right (y ∷ ys) z zs yz) ∙ merge_right (x ∷ xs) z (merge (y ∷ ys) zs) xz)

    go : (a : Bool) → goes_first x.1 y.1 ≡ a → (b : Bool) → goes_first x.1 z.1 ≡ b → (c : Bool) → goes_first y.1 z.1 ≡ c
        → merge (merge xs (y ∷ ys)) (z ∷ zs) ≡ merge xs (merge (y ∷ ys) (z ∷ zs))
        → merge (merge (x ∷ xs) ys) (z ∷ zs) ≡ merge (x ∷ xs) (merge ys (z ∷ zs))
        → merge (merge (x ∷ xs) (y ∷ ys)) zs ≡ merge (x ∷ xs) (merge (y ∷ ys) zs)
        → merge (merge (x ∷ xs) (y ∷ ys)) (z ∷ zs) ≡ merge (x ∷ xs) (merge (y ∷ ys) (z ∷ zs))
    go true xy true xz c yz i1 i2 i3 =
        ap (λ (l : List Placed). merge l (z ∷ zs)) (merge_left x xs (y ∷ ys) xy) ∙ merge_left x (merge xs (y ∷ ys)) (z ∷ zs) xz ∙ ap (λ (l : List Placed). x ∷ l) i1
        ∙ sym (merge_left x xs (merge (y ∷ ys) (z ∷ zs)) (leads_merge (x ∷ xs) (y ∷ ys) (z ∷ zs) xy xz))
    go true xy false xz true yz i1 i2 i3 = absurd (cc (xz, first_trans x.1 y.1 z.1 xy yz))
    go true xy false xz false yz i1 i2 i3 = third xz yz (ap (λ (l : List Placed). leads l (z ∷ zs)) (merge_left x xs (y ∷ ys) xy) ∙ xz) i3
    go false xy b xz true yz i1 i2 i3 =
        ap (λ (l : List Placed). merge l (z ∷ zs)) (merge_right (x ∷ xs) y ys xy) ∙ merge_left y (merge (x ∷ xs) ys) (z ∷ zs) yz ∙ ap (λ (l : List Placed). y ∷ l) i2
        ∙ sym (ap (λ (l : List Placed). merge (x ∷ xs) l) (merge_left y ys (z ∷ zs) yz) ∙ merge_right (x ∷ xs) y (merge ys (z ∷ zs)) xy)
    go false xy true xz false yz i1 i2 i3 = absurd (cc (yz, first_trans y.1 x.1 z.1 (first_total x.1 y.1 xy) xz))
    go false xy false xz false yz i1 i2 i3 = third xz yz (ap (λ (l : List Placed). leads l (z ∷ zs)) (merge_right (x ∷ xs) y ys xy) ∙ yz) i3

pub merge-merge : (xs ys zs : List Placed) → merge (merge xs ys) zs ≡ merge xs (merge ys zs)
merge-merge xs ys zs = merge_joins (length xs + length ys + length zs) xs ys zs (omega arith)
