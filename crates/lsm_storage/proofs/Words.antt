-- Words of numbers one after another.
use Rattle.std.proofs.Common.{◌≡◌, refl, ap, ◌++◌}
use Rattle.std.specs.Prelude.{ℕ, List, [], ◌∷◌}
use Rattle.lsm_storage.specs.Changes.{Words, call_of, calls_in, raised, with_number, word_of, words_in}

raised_front : (ns rest : List ℕ) → words_in (raised ns ++ rest) ≡ record { calls = calls_in rest; front = ns }
raised_front [] rest = refl
raised_front (n ∷ ns) rest = ap (with_number n) (raised_front ns rest)

pub calls_of_word : (ns rest : List ℕ) → calls_in (word_of ns ++ rest) ≡ call_of ns ++ calls_in rest
calls_of_word ns rest = ap (λ (w : Words). call_of w.front ++ w.calls) (raised_front ns rest)
