-- The words of a script's lines: this project's rule.
use Rattle.std.specs.Prelude.{ℕ, ◌==◌, cond, List, [], ◌∷◌}
use Rattle.lsm_text.specs.EntryList.{with_first}

-- the words of a line: one space (32) parts two
unfoldable pub words_of : List ℕ → List (List ℕ)
words_of [] = [] ∷ []
words_of (c ∷ cs) = cond (c == 32) ([] ∷ words_of cs) (with_first c (words_of cs))
