-- Elements of lists made by `++`, a filter and a flat map.
use Rattle.std.proofs.Common.{zero, suc, ◌<◌, length, get_or, arith, ℕ, ◌≡◌, Bool, true, false, cond, List, [], ◌∷◌, ◌++◌, refl, sym, ◌∙◌, ap, subst, inl, inr}
use Rattle.std.specs.Prelude.{◌⊎◌, ◌||◌}
use Rattle.std.specs.List.{list_any, filter, flat_map, All, Contains}
use Rattle.std.proofs.lemmas.List.Elements.{All-contains}
use Rattle.lsm_codec.specs.Lists.{Has}

pub has_left : {X : Type 0} (xs ys : List X) (x : X) → Has xs x → Has (xs ++ ys) x
has_left [] ys x h = absurd h
has_left (z ∷ xs) ys x (inl e) = inl e
has_left (z ∷ xs) ys x (inr h) = inr (has_left xs ys x h)

pub has_right : {X : Type 0} (xs ys : List X) (x : X) → Has ys x → Has (xs ++ ys) x
has_right [] ys x h = h
has_right (z ∷ xs) ys x h = inr (has_right xs ys x h)

pub has_cases : {X : Type 0} (xs ys : List X) (x : X) → Has (xs ++ ys) x → Has xs x ⊎ Has ys x
has_cases [] ys x h = inr h
has_cases (z ∷ xs) ys x (inl e) = inl (inl e)
has_cases (z ∷ xs) ys x (inr h) = elim (has_cases xs ys x h) [ inl a ↦ inl (inr a) | inr b ↦ inr b ]

pub has_filter : {X : Type 0} (p : X → Bool) (xs : List X) (x : X) → Has xs x → p x ≡ true → Has (filter p xs) x
has_filter p [] x h t = absurd h
has_filter p (z ∷ xs) x (inl e) t =
    let pz : p z ≡ true = ap p e ∙ t in
    subst (λ (b : Bool). Has (cond b (z ∷ filter p xs) (filter p xs)) x) (sym pz) (inl e)
has_filter p (z ∷ xs) x (inr h) t = go (p z) (has_filter p xs x h t)
  where
    go : (b : Bool) → Has (filter p xs) x → Has (cond b (z ∷ filter p xs) (filter p xs)) x
    go true rest = inr rest
    go false rest = rest

pub filter_has : {X : Type 0} (p : X → Bool) (xs : List X) (x : X) → Has (filter p xs) x → Has xs x × (p x ≡ true)
filter_has p [] x h = absurd h
filter_has {X} p (z ∷ xs) x h = go (p z) refl (filter_has p xs x) h
  where
    go : (b : Bool) → p z ≡ b → (Has (filter p xs) x → Has xs x × (p x ≡ true)) → Has (cond b (z ∷ filter p xs) (filter p xs)) x → Has (z ∷ xs) x × (p x ≡ true)
    go true e rec (inl same) = (inl same, ap p (sym same) ∙ e)
    go true e rec (inr h) = (inr (rec h).0, (rec h).1)
    go false e rec h = (inr (rec h).0, (rec h).1)

pub has_flat : {X Y : Type 0} (f : X → List Y) (xs : List X) (x : X) (y : Y) → Has xs x → Has (f x) y → Has (flat_map f xs) y
has_flat f [] x y h k = absurd h
has_flat f (z ∷ xs) x y (inl e) k = has_left (f z) (flat_map f xs) y (subst (λ w. Has (f w) y) (sym e) k)
has_flat f (z ∷ xs) x y (inr h) k = has_right (f z) (flat_map f xs) y (has_flat f xs x y h k)

pub flat_has : {X Y : Type 0} (f : X → List Y) (xs : List X) (y : Y) → Has (flat_map f xs) y → (x : X) × Has xs x × Has (f x) y
flat_has f [] y h = absurd h
flat_has f (z ∷ xs) y h = elim (has_cases (f z) (flat_map f xs) y h) [
  | inl a ↦ (z, inl refl, a)
  | inr b ↦ (let r = flat_has f xs y b in (r.0, inr r.1, r.2))
]

pub any_at : {X : Type 0} (p : X → Bool) (xs : List X) (x : X) → Has xs x → p x ≡ true → list_any p xs ≡ true
any_at p [] x h t = absurd h
any_at p (z ∷ xs) x (inl e) t = ap (λ b. b || list_any p xs) (ap p e ∙ t)
any_at p (z ∷ xs) x (inr h) t = go (p z) (any_at p xs x h t)
  where
    go : (b : Bool) → list_any p xs ≡ true → (b || list_any p xs) ≡ true
    go true rest = refl
    go false rest = rest

pub any_says : {X : Type 0} (p : X → Bool) (xs : List X) → list_any p xs ≡ true → (x : X) × Has xs x × (p x ≡ true)
any_says p [] h = absurd (cc h)
any_says {X} p (z ∷ xs) h = go (p z) refl (any_says p xs) h
  where
    go : (b : Bool) → p z ≡ b → (list_any p xs ≡ true → (x : X) × Has xs x × (p x ≡ true)) → (b || list_any p xs) ≡ true → (x : X) × Has (z ∷ xs) x × (p x ≡ true)
    go true e rec t = (z, inl refl, e)
    go false e rec t = (let r = rec t in (r.0, inr r.1, r.2))

-- `Has` is std's `Contains`
pub contains_from : {X : Type 0} (xs : List X) (x : X) → Has xs x → Contains xs x
contains_from [] x h = absurd h
contains_from (y ∷ xs) x (inl e) = (zero, omega arith, e)
contains_from (y ∷ xs) x (inr h) = (let r = contains_from xs x h in (suc r.0, (let lt = r.1 in omega arith), r.2))

pub contains_says : {X : Type 0} (xs : List X) (x : X) → Contains xs x → Has xs x
contains_says [] x c = (let lt = c.1 in absurd (omega arith))
contains_says (y ∷ xs) x c = go c.0 c.1 c.2 (λ k lt e. contains_says xs x (k, lt, e))
  where
    go : (k : ℕ) → k < suc (length xs) → get_or (y ∷ xs) k x ≡ x → ((j : ℕ) → j < length xs → get_or xs j x ≡ x → Has xs x) → Has (y ∷ xs) x
    go zero lt e rest = inl e
    go (suc j) lt e rest = inr (rest j (omega arith) e)

-- and what holds of each element holds of each that the list has
pub all_at : {X : Type 0} (P : X → Type 0) (xs : List X) (x : X) → All P xs → Has xs x → P x
all_at P xs x a h = All-contains P xs x a (contains_from xs x h)
