-- Tables that are put into a level.
use Rattle.std.proofs.Common.{◌≡◌, List, [], ◌∷◌, Bool, true, false, not, refl, ap, inl, inr}
use Rattle.std.specs.Prelude.{◌⊎◌}
use Rattle.std.specs.List.{filter}
use Rattle.lsm_codec.specs.Lists.{Has}
use Rattle.lsm_codec.proofs.CallerLemmas.{has_filter, has_left, has_right}
use Rattle.lsm_table.specs.Registry.{Table}
use Rattle.lsm_version.specs.Changes.{placed_all, placed_in}
use Rattle.lsm_version.specs.Versions.{stands_before}

either : (p : Table → Bool) (us : List Table) (x : Table) → Has us x
    → Has (filter (λ u. not (p u)) us) x ⊎ Has (filter p us) x
either p us x h = go (p x) refl
  where
    go : (b : Bool) → p x ≡ b → Has (filter (λ u. not (p u)) us) x ⊎ Has (filter p us) x
    go true e = inr (has_filter p us x h e)
    go false e = inl (has_filter (λ u. not (p u)) us x h (ap not e))

one_placed : (t : Table) (us : List Table) (x : Table) → (t ≡ x) ⊎ Has us x
    → Has (placed_in t us) x
unfolding placed_in
one_placed t us x h =
    let p : Table → Bool = λ u. stands_before t u in
    let q : Table → Bool = λ u. not (stands_before t u) in
    elim h [
      | inl same ↦ has_right (filter q us) (t ∷ filter p us) x (inl same)
      | inr k ↦ elim (either p us x k) [
        | inl a ↦ has_left (filter q us) (t ∷ filter p us) x a
        | inr b ↦ has_right (filter q us) (t ∷ filter p us) x (inr b)
      ]
    ]

pub all_placed : (ts us : List Table) (x : Table) → Has ts x ⊎ Has us x → Has (placed_all ts us) x
all_placed [] us x (inl a) = absurd a
all_placed [] us x (inr b) = b
all_placed (t ∷ ts) us x (inl (inl same)) =
    all_placed ts (placed_in t us) x (inr (one_placed t us x (inl same)))
all_placed (t ∷ ts) us x (inl (inr b)) = all_placed ts (placed_in t us) x (inl b)
all_placed (t ∷ ts) us x (inr c) =
    all_placed ts (placed_in t us) x (inr (one_placed t us x (inr c)))
