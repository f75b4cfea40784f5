-- Bytes that are read ahead.
use Rattle.std.proofs.Common.{◌≡◌, ℕ, ◌+◌, ◌-◌, ◌≤◌, List, [], ◌++◌, length, take, drop, Option, Some, None, sym, ap, ◌∙◌, append_assoc, drop-drop, arith}
use Rattle.std.specs.Io.KnownBytes.{Consumes, Keeps, prepend_known}
use Rattle.std.proofs.lemmas.List.{drop-take, length-take}

-- some more are passed
pub passed : (xs : List ℕ) (from to n : ℕ) → n ≤ length (take (to - from) (drop from xs)) → take (to - (from + n)) (drop (from + n) xs) ≡ drop n (take (to - from) (drop from xs))
passed xs from to n h =
    let few : n ≤ to - from = omega (arith, h, length-take (to - from) (drop from xs)) in
    let rest : n + (to - (from + n)) ≡ to - from = omega (arith, few) in
    ap (take (to - (from + n))) (sym (drop-drop n from xs)) ∙ sym (drop-take n (to - (from + n)) (drop from xs)) ∙ ap (λ k. drop n (take k (drop from xs))) rest

-- none was ready, and some were read
pub filled : (start old new : Option (List ℕ)) (bs : List ℕ) → Keeps start old → Consumes old new bs → Keeps start (prepend_known bs new)
filled None old new bs k c = tt
filled (Some s) None new bs k c = absurd k
filled (Some s) (Some x) None bs k c = absurd c
filled (Some s) (Some x) (Some y) bs k c = sym c ∙ k

-- none is ready
pub none_ready : (known : Option (List ℕ)) (bs : List ℕ) → bs ≡ [] → Keeps (prepend_known bs known) known
none_ready None bs e = tt
none_ready (Some x) bs e = sym (ap (λ (l : List ℕ). l ++ x) e)

-- the first of those that are ready are taken
pub taken : (known : Option (List ℕ)) (all front rest : List ℕ) → all ≡ front ++ rest → Consumes (prepend_known all known) (prepend_known rest known) front
taken None all front rest e = tt
taken (Some x) all front rest e = ap (λ (l : List ℕ). l ++ x) e ∙ append_assoc front rest x
