-- Lines printed one after another for the elements of a list.
use Rattle.std.proofs.Common.{◌≡◌, ℕ, ◌+◌, ◌<◌, ◌≤◌, List, [], ◌∷◌, ◌++◌, length, get_or, take, sym, ap, ◌∙◌, append_assoc, append-nil}
use Rattle.std.specs.List.{flat_map}
use Rattle.std.proofs.lemmas.Grind.{flat_map-append}
use Rattle.std.proofs.lemmas.List.{take_more, take_all}

-- the line of one more element
pub lines_more : {X : Type 0} (f : X → List ℕ) (xs : List X) (i : ℕ) (x : X) (start before after : List ℕ) → i < length xs → x ≡ get_or xs i x
    → before ≡ start ++ flat_map f (take i xs) → after ≡ before ++ f x → after ≡ start ++ flat_map f (take (i + 1) xs)
lines_more f xs i x start before after h e so_far added =
    let more = ap (flat_map f) (take_more xs i x h) ∙ flat_map-append f (take i xs) (get_or xs i x ∷ [])
    ∙ ap (λ ys. flat_map f (take i xs) ++ ys) (append-nil (f (get_or xs i x)) ∙ ap f (sym e)) in
    added ∙ ap (λ (ys : List ℕ). ys ++ f x) so_far ∙ append_assoc start (flat_map f (take i xs)) (f x) ∙ ap (λ (ys : List ℕ). start ++ ys) (sym more)

-- the same of an element that is read with a default
pub lines_at : {X : Type 0} (f : X → List ℕ) (xs : List X) (i : ℕ) (d : X) (start before after : List ℕ) → i < length xs
    → before ≡ start ++ flat_map f (take i xs) → after ≡ before ++ f (get_or xs i d) → after ≡ start ++ flat_map f (take (i + 1) xs)
lines_at f xs i d start before after h so_far added =
    let more = ap (flat_map f) (take_more xs i d h) ∙ flat_map-append f (take i xs) (get_or xs i d ∷ [])
    ∙ ap (λ ys. flat_map f (take i xs) ++ ys) (append-nil (f (get_or xs i d))) in
    added ∙ ap (λ (ys : List ℕ). ys ++ f (get_or xs i d)) so_far ∙ append_assoc start (flat_map f (take i xs)) (f (get_or xs i d)) ∙ ap (λ (ys : List ℕ). start ++ ys) (sym more)

pub lines_all : {X : Type 0} (f : X → List ℕ) (xs : List X) (i : ℕ) (start after : List ℕ) → length xs ≤ i
    → after ≡ start ++ flat_map f (take i xs) → after ≡ start ++ flat_map f xs
lines_all f xs i start after h so_far = so_far ∙ ap (λ ys. start ++ flat_map f ys) (take_all i xs h)
