-- The first pairs of a scan.
use Rattle.std.proofs.Common.{◌≡◌, ◌≤◌, ℕ, List, [], ◌∷◌, ◌++◌, length, take, sym, ap, ◌∙◌}
use Rattle.std.proofs.Common.{append_assoc}
use Rattle.std.proofs.lemmas.List.{append-nil, take_all, take_at}
use Rattle.lsm_model.specs.Scanning.{Pair}

pub one_more : (front : List Pair) (p : Pair) (rest left all : List Pair) → left ≡ p ∷ rest → front ++ left ≡ all → (front ++ p ∷ []) ++ rest ≡ all
one_more front p rest left all first so_far = append_assoc front (p ∷ []) rest ∙ ap (λ (ps : List Pair). front ++ ps) (sym first) ∙ so_far

-- so many are there
pub so_many : (limit : ℕ) (front rest all : List Pair) → length front ≡ limit → front ++ rest ≡ all → front ≡ take limit all
so_many limit front rest all long so_far = sym (take_at front rest limit long) ∙ ap (λ (ps : List Pair). take limit ps) so_far

-- no more are left
pub no_more : (limit : ℕ) (front left all : List Pair) → length front ≤ limit → left ≡ [] → front ++ left ≡ all → front ≡ take limit all
no_more limit front left all long none so_far =
    let whole : front ≡ all = sym (append-nil front) ∙ ap (λ (ps : List Pair). front ++ ps) (sym none) ∙ so_far in
    sym (take_all limit front long) ∙ ap (λ (ps : List Pair). take limit ps) whole
