-- The tables of which a check takes a second look (this project's rule).
use Rattle.std.specs.Prelude.{ℕ, ◌==◌, Bool, List, map}
use Rattle.std.specs.List.{filter, list_any}
use Rattle.lsm_table.specs.Registry.{Table}

-- the table's number is one of those
abbrev pub is_among : List ℕ → Table → Bool
is_among numbers t = list_any (λ n. n == t.number) numbers

-- of each level the tables of these numbers
abbrev pub chosen : List ℕ → List (List Table) → List (List Table)
chosen numbers levels = map (λ ts. filter (is_among numbers) ts) levels
