-- The first file of those that a test lets through.
use Rattle.std.proofs.Common.{◌≡◌, ℕ, zero, suc, ◌<◌, Bool, true, List, [], ◌∷◌, ◌++◌}
use Rattle.std.proofs.Common.{length, get_or, take, sym, ◌∙◌, ap, arith}
use Rattle.std.specs.Prelude.{Some, cond, slice_get}
use Rattle.std.specs.List.{filter}
use Rattle.std.proofs.lemmas.List.Elements.{filter-append}
use Rattle.lsm_table.specs.Registry.{Table}

parts_at : (ts : List Table) (i : ℕ) (x : Table) → i < length ts → x ≡ get_or ts i x
    → (r : List Table) × (ts ≡ take i ts ++ x ∷ r)
parts_at [] i x lt is = absurd (omega arith)
parts_at (t ∷ ts) zero x lt is = (ts, ap (λ (u : Table). u ∷ ts) (sym is))
parts_at (t ∷ ts) (suc i) x lt is =
    (let p = parts_at ts i x (omega arith) is in (p.0, ap (λ (l : List Table). t ∷ l) p.1))

pub first_let : (f : Table → Bool) (ts : List Table) (i : ℕ) (x : Table) → i < length ts
    → x ≡ get_or ts i x → f x ≡ true → filter f (take i ts) ≡ []
    → slice_get (filter f ts) 0 ≡ Some x
first_let f ts i x lt is holds none =
    let p = parts_at ts i x lt is in
    ap (λ (l : List Table). slice_get (filter f l) 0) p.1
    ∙ ap (λ (l : List Table). slice_get l 0) (filter-append f (take i ts) (x ∷ p.0))
    ∙ ap (λ (l : List Table). slice_get (l ++ filter f (x ∷ p.0)) 0) none
    ∙ ap (λ (b : Bool). slice_get (cond b (x ∷ filter f p.0) (filter f p.0)) 0) holds
