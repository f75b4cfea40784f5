-- The first entry of a merge, its members, its order.
use Rattle.std.proofs.Common.{◌≡◌, Bool, true, false, cond, List, [], ◌∷◌, ◌++◌, refl, sym, ◌∙◌, ap, subst, inl, inr}
use Rattle.std.specs.Prelude.{◌⊎◌}
use Rattle.std.proofs.lemmas.Bool.{and_parts}
use Rattle.std.specs.List.{flat_map, filter}
use Rattle.lsm_codec.specs.Entries.{Entry}
use Rattle.lsm_codec.specs.Lists.{Has}
use Rattle.lsm_codec.proofs.CallerLemmas.{has_left, has_right, has_cases}
use Rattle.lsm_model.specs.Merging.{Placed, AreOrdered, is_alike, goes_first, IsOrdered, onto, merge, merge_all, leads}
use Rattle.lsm_model.proofs.Order.{first_trans, first_total, true_or_not}

-- a list that leads the other gives the merge's first
pub merge_left : (x : Placed) (xs ys : List Placed) → leads (x ∷ xs) ys ≡ true → merge (x ∷ xs) ys ≡ x ∷ merge xs ys
merge_left x xs [] h = refl
merge_left x xs (y ∷ ys) h = ap (λ (b : Bool). cond b (x ∷ merge xs (y ∷ ys)) (y ∷ onto x (merge xs) ys)) h

-- and one that does not, the other's
pub merge_right : (xs : List Placed) (y : Placed) (ys : List Placed) → leads xs (y ∷ ys) ≡ false → merge xs (y ∷ ys) ≡ y ∷ merge xs ys
merge_right [] y ys h = refl
merge_right (x ∷ xs) y ys h = ap (λ (b : Bool). cond b (x ∷ merge xs (y ∷ ys)) (y ∷ onto x (merge xs) ys)) h

pub merge_empty : (xs : List Placed) → merge xs [] ≡ xs
merge_empty [] = refl
merge_empty (x ∷ xs) = ap (λ (l : List Placed). x ∷ l) (merge_empty xs)

-- what leads both lists leads their merge
pub leads_merge : (l xs ys : List Placed) → leads l xs ≡ true → leads l ys ≡ true → leads l (merge xs ys) ≡ true
leads_merge l [] ys h k = k
leads_merge l (x ∷ xs) [] h k = subst (λ (m : List Placed). leads l m ≡ true) (sym (merge_empty (x ∷ xs))) h
leads_merge l (x ∷ xs) (y ∷ ys) h k = go (goes_first x.1 y.1) refl
  where
    go : (b : Bool) → goes_first x.1 y.1 ≡ b → leads l (cond b (x ∷ merge xs (y ∷ ys)) (y ∷ onto x (merge xs) ys)) ≡ true
    go true e = head l x xs (merge xs (y ∷ ys)) h
      where
        head : (l : List Placed) (z : Placed) (rs bs : List Placed) → leads l (z ∷ rs) ≡ true → leads l (z ∷ bs) ≡ true
        head [] z rs bs t = absurd (cc t)
        head (w ∷ ws) z rs bs t = t
    go false e = head l y ys (onto x (merge xs) ys) k
      where
        head : (l : List Placed) (z : Placed) (rs bs : List Placed) → leads l (z ∷ rs) ≡ true → leads l (z ∷ bs) ≡ true
        head [] z rs bs t = absurd (cc t)
        head (w ∷ ws) z rs bs t = t

-- the merge has the lists' entries
onto_cases : (x : Placed) (rest : List Placed → List Placed) (ys : List Placed) (e : Placed) (P : Type 0)
    → ((zs : List Placed) → Has (rest zs) e → P ⊎ Has zs e) → Has (onto x rest ys) e → (x ≡ e) ⊎ (P ⊎ Has ys e)
onto_cases x rest [] e P r (inl same) = inl same
onto_cases x rest [] e P r (inr h) = inr (r [] h)
onto_cases x rest (y ∷ ys) e P r h = go (goes_first x.1 y.1) h (λ k. onto_cases x rest ys e P r k)
  where
    go : (b : Bool) → Has (cond b (x ∷ rest (y ∷ ys)) (y ∷ onto x rest ys)) e → (Has (onto x rest ys) e → (x ≡ e) ⊎ (P ⊎ Has ys e)) → (x ≡ e) ⊎ (P ⊎ Has (y ∷ ys) e)
    go true (inl same) rec = inl same
    go true (inr h) rec = inr (r (y ∷ ys) h)
    go false (inl same) rec = inr (inr (inl same))
    go false (inr h) rec = elim (rec h) [ inl s ↦ inl s | inr o ↦ elim o [ inl p ↦ inr (inl p) | inr k ↦ inr (inr (inr k)) ] ]

pub merge_from : (xs ys : List Placed) (e : Placed) → Has (merge xs ys) e → Has xs e ⊎ Has ys e
merge_from [] ys e h = inr h
merge_from (x ∷ xs) ys e h = elim (onto_cases x (merge xs) ys e (Has xs e) (λ zs k. merge_from xs zs e k) h) [
  | inl s ↦ inl (inl s)
  | inr o ↦ elim o [ inl p ↦ inl (inr p) | inr k ↦ inr k ]
]

onto_own : (x : Placed) (rest : List Placed → List Placed) (ys : List Placed) → Has (onto x rest ys) x
onto_own x rest [] = inl refl
onto_own x rest (y ∷ ys) = go (goes_first x.1 y.1) (onto_own x rest ys)
  where
    go : (b : Bool) → Has (onto x rest ys) x → Has (cond b (x ∷ rest (y ∷ ys)) (y ∷ onto x rest ys)) x
    go true h = inl refl
    go false h = inr h

onto_rest : (x : Placed) (rest : List Placed → List Placed) (ys : List Placed) (e : Placed) → ((zs : List Placed) → Has (rest zs) e) → Has (onto x rest ys) e
onto_rest x rest [] e r = inr (r [])
onto_rest x rest (y ∷ ys) e r = go (goes_first x.1 y.1) (onto_rest x rest ys e r)
  where
    go : (b : Bool) → Has (onto x rest ys) e → Has (cond b (x ∷ rest (y ∷ ys)) (y ∷ onto x rest ys)) e
    go true h = inr (r (y ∷ ys))
    go false h = inr h

onto_other : (x : Placed) (rest : List Placed → List Placed) (ys : List Placed) (e : Placed) → ((zs : List Placed) → Has zs e → Has (rest zs) e) → Has ys e → Has (onto x rest ys) e
onto_other x rest [] e r h = absurd h
onto_other x rest (y ∷ ys) e r h = go (goes_first x.1 y.1) h (λ k. onto_other x rest ys e r k)
  where
    go : (b : Bool) → Has (y ∷ ys) e → (Has ys e → Has (onto x rest ys) e) → Has (cond b (x ∷ rest (y ∷ ys)) (y ∷ onto x rest ys)) e
    go true h rec = inr (r (y ∷ ys) h)
    go false (inl s) rec = inl s
    go false (inr h) rec = inr (rec h)

pub merge_has_left : (xs ys : List Placed) (e : Placed) → Has xs e → Has (merge xs ys) e
merge_has_left [] ys e h = absurd h
merge_has_left (x ∷ xs) ys e (inl s) = subst (Has (onto x (merge xs) ys)) s (onto_own x (merge xs) ys)
merge_has_left (x ∷ xs) ys e (inr h) = onto_rest x (merge xs) ys e (λ zs. merge_has_left xs zs e h)

pub merge_has_right : (xs ys : List Placed) (e : Placed) → Has ys e → Has (merge xs ys) e
merge_has_right [] ys e h = h
merge_has_right (x ∷ xs) ys e h = onto_other x (merge xs) ys e (λ zs k. merge_has_right xs zs e k) h

pub merged_from : (ls : List (List Placed)) (e : Placed) → Has (merge_all ls) e → Has (flat_map (λ l. l) ls) e
merged_from [] e h = h
merged_from (l ∷ ls) e h = elim (merge_from l (merge_all ls) e h) [
  | inl a ↦ has_left l (flat_map (λ m. m) ls) e a
  | inr b ↦ has_right l (flat_map (λ m. m) ls) e (merged_from ls e b)
]

pub merged_has : (ls : List (List Placed)) (e : Placed) → Has (flat_map (λ l. l) ls) e → Has (merge_all ls) e
merged_has [] e h = h
merged_has (l ∷ ls) e h = elim (has_cases l (flat_map (λ m. m) ls) e h) [
  | inl a ↦ merge_has_left l (merge_all ls) e a
  | inr b ↦ merge_has_right l (merge_all ls) e (merged_has ls e b)
]

-- and is in order
merge_ordered : (xs ys : List Placed) → IsOrdered xs → IsOrdered ys → IsOrdered (merge xs ys)
merge_ordered [] ys a b = b
merge_ordered (x ∷ xs) ys a b = go (λ zs s. merge_ordered xs zs a.1 s) ys b
  where
    go : ((zs : List Placed) → IsOrdered zs → IsOrdered (merge xs zs)) → (ys : List Placed) → IsOrdered ys → IsOrdered (onto x (merge xs) ys)
    go rec [] b = (λ e h. elim (merge_from xs [] e h) [ inl k ↦ a.0 e k | inr n ↦ absurd n ], rec [] tt)
    go rec (y ∷ ys) b = test (goes_first x.1 y.1) refl (go rec ys b.1) (rec (y ∷ ys) b)
      where
        test : (t : Bool) → goes_first x.1 y.1 ≡ t → IsOrdered (onto x (merge xs) ys) → IsOrdered (merge xs (y ∷ ys)) → IsOrdered (cond t (x ∷ merge xs (y ∷ ys)) (y ∷ onto x (merge xs) ys))
        test true e rest own = (
          λ w h. elim (merge_from xs (y ∷ ys) w h) [
            | inl k ↦ a.0 w k
            | inr k ↦ elim k [ inl s ↦ subst (λ (v : Placed). goes_first x.1 v.1 ≡ true) s e | inr l ↦ first_trans x.1 y.1 w.1 e (b.0 w l) ]
          ],
          own,
        )
        test false e rest own = (
          λ w h. elim (merge_from (x ∷ xs) ys w h) [
            | inl k ↦ (let yx = first_total x.1 y.1 e in elim k [ inl s ↦ subst (λ (v : Placed). goes_first y.1 v.1 ≡ true) s yx | inr l ↦ first_trans y.1 x.1 w.1 yx (a.0 w l) ])
            | inr l ↦ b.0 w l
          ],
          rest,
        )

pub merged_ordered : (ls : List (List Placed)) → AreOrdered ls → IsOrdered (merge_all ls)
merged_ordered [] a = tt
merged_ordered (l ∷ ls) a = merge_ordered l (merge_all ls) a.0 (merged_ordered ls a.1)

-- nothing of a sorted list is alike that its first does not reach
none_alike : (e : Entry) (y : Placed) (xs : List Placed) → is_alike e y ≡ true → ((x : Placed) → Has xs x → goes_first x.1 y.1 ≡ false) → filter (is_alike e) xs ≡ []
none_alike e y [] t n = refl
none_alike e y (x ∷ xs) t n = go (is_alike e x) refl (none_alike e y xs t (λ z h. n z (inr h)))
  where
    go : (b : Bool) → is_alike e x ≡ b → filter (is_alike e) xs ≡ [] → cond b (x ∷ filter (is_alike e) xs) (filter (is_alike e) xs) ≡ []
    go false u rest = rest
    go true u rest = absurd (cc (n x (inl refl), first_trans x.1 e y.1 (and_parts (goes_first e x.1) (goes_first x.1 e) u).1 (and_parts (goes_first e y.1) (goes_first y.1 e) t).0))

pub merge_alike : (e : Entry) (xs ys : List Placed) → IsOrdered xs → filter (is_alike e) (merge xs ys) ≡ filter (is_alike e) xs ++ filter (is_alike e) ys
merge_alike e [] ys a = refl
merge_alike e (x ∷ xs) ys a = go (λ zs. merge_alike e xs zs a.1) ys
  where
    here : (b : Bool) (p q r : List Placed) → p ≡ q ++ r → cond b (x ∷ p) p ≡ cond b (x ∷ q) q ++ r
    here true p q r h = ap (λ (l : List Placed). x ∷ l) h
    here false p q r h = h

    go : ((zs : List Placed) → filter (is_alike e) (merge xs zs) ≡ filter (is_alike e) xs ++ filter (is_alike e) zs) → (ys : List Placed)
        → filter (is_alike e) (onto x (merge xs) ys) ≡ filter (is_alike e) (x ∷ xs) ++ filter (is_alike e) ys
    go rec [] = here (is_alike e x) (filter (is_alike e) (merge xs [])) (filter (is_alike e) xs) [] (rec [])
    go rec (y ∷ ys) = test (goes_first x.1 y.1) refl (go rec ys)
      where
        test : (t : Bool) → goes_first x.1 y.1 ≡ t → filter (is_alike e) (onto x (merge xs) ys) ≡ filter (is_alike e) (x ∷ xs) ++ filter (is_alike e) ys
            → filter (is_alike e) (cond t (x ∷ merge xs (y ∷ ys)) (y ∷ onto x (merge xs) ys)) ≡ filter (is_alike e) (x ∷ xs) ++ filter (is_alike e) (y ∷ ys)
        test true u rest = here (is_alike e x) (filter (is_alike e) (merge xs (y ∷ ys))) (filter (is_alike e) xs) (filter (is_alike e) (y ∷ ys)) (rec (y ∷ ys))
        test false u rest = alike (is_alike e y) refl
          where
            F : List Placed
            F = filter (is_alike e) (onto x (merge xs) ys)

            alike : (b : Bool) → is_alike e y ≡ b → cond b (y ∷ F) F ≡ filter (is_alike e) (x ∷ xs) ++ cond b (y ∷ filter (is_alike e) ys) (filter (is_alike e) ys)
            alike false v = rest
            alike true v =
                let none : filter (is_alike e) (x ∷ xs) ≡ [] = none_alike e y (x ∷ xs) v (λ z h. elim h [
                  | inl s ↦ subst (λ (w : Placed). goes_first w.1 y.1 ≡ false) s u
                  | inr l ↦ true_or_not (goes_first z.1 y.1) (λ k. absurd (cc (u, first_trans x.1 z.1 y.1 (a.0 z l) k)))
                ]) in
                ap (λ (l : List Placed). y ∷ l) (rest ∙ ap (λ (l : List Placed). l ++ filter (is_alike e) ys) none)
                ∙ ap (λ (l : List Placed). l ++ (y ∷ filter (is_alike e) ys)) (sym none)

-- the merge has the entries that are alike just as the lists, one after another, have them
pub merged_alike : (e : Entry) (ls : List (List Placed)) → AreOrdered ls → filter (is_alike e) (merge_all ls) ≡ flat_map (filter (is_alike e)) ls
merged_alike e [] a = refl
merged_alike e (l ∷ ls) a = merge_alike e l (merge_all ls) a.0 ∙ ap (λ (m : List Placed). filter (is_alike e) l ++ m) (merged_alike e ls a.1)
