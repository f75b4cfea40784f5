-- Calls of a shelf as numbers: a shelf's value keeps those by which it changed what lies there as a
-- tag, which holds numbers alone (this project's rule).
use Rattle.std.specs.Prelude.{ℕ, zero, suc, List, [], ◌∷◌, ◌++◌}
use Rattle.lsm_shelf.specs.Asked.{Asked, Put, Remove, StartManifest, AppendManifest}

-- a list of numbers as a word: 0, each number two greater, and 1
abbrev pub raised : List ℕ → List ℕ
raised [] = 1 ∷ []
raised (n ∷ ns) = suc (suc n) ∷ raised ns

abbrev pub word_of : List ℕ → List ℕ
word_of ns = 0 ∷ raised ns

-- the call for which the numbers of a word stand: which one, a number, and bytes
abbrev pub call_of : List ℕ → List Asked
call_of (zero ∷ number ∷ image) = Put number image ∷ []
call_of (suc zero ∷ number ∷ bytes) = Remove number ∷ []
call_of (suc (suc zero) ∷ number ∷ bytes) = StartManifest number bytes ∷ []
call_of (suc (suc (suc zero)) ∷ number ∷ bytes) = AppendManifest bytes ∷ []
call_of numbers = []

-- the calls of words one after another, and the numbers of a word that has no beginning
pub record Words : Type 0 where
  pub calls : List Asked
  pub front : List ℕ

abbrev pub with_number : ℕ → Words → Words
with_number n w = record { calls = w.calls; front = n ∷ w.front }

abbrev pub words_in : List ℕ → Words
words_in [] = record { calls = []; front = [] }
words_in (zero ∷ ns) = record {
  calls = call_of (words_in ns).front
      ++ (words_in ns).calls;
  front = [];
}
words_in (suc zero ∷ ns) = record { calls = (words_in ns).calls; front = [] }
words_in (suc (suc n) ∷ ns) = with_number n (words_in ns)

abbrev pub calls_in : List ℕ → List Asked
calls_in ns = (words_in ns).calls
