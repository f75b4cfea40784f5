-- How much a database has, as it is printed (this project's rule).
use Rattle.std.specs.Prelude.{ℕ, List, [], ◌∷◌, ◌++◌, length, codes, decimal}
use Rattle.lsm_table.specs.Registry.{Table, bytes_of}
use Rattle.lsm_version.specs.Versions.{level_in}
use Rattle.lsm_state.specs.Held.{Held}

-- a word, a number, and a newline
unfoldable pub number_line : List ℕ → ℕ → List ℕ
number_line word n = word ++ (decimal n ++ (10 ∷ []))

-- `level L files N bytes B`
unfoldable pub level_line : ℕ → List Table → List ℕ
level_line level ts = codes "level "
    ++ (decimal level ++ (codes " files "
    ++ (decimal (length ts) ++ number_line (codes " bytes ") (bytes_of ts))))

-- of levels 0 to 3, and 4 to 6
unfoldable pub upper_lines : List (List Table) → List ℕ
upper_lines levels = level_line 0 (level_in levels 0)
    ++ (level_line 1 (level_in levels 1)
    ++ (level_line 2 (level_in levels 2) ++ level_line 3 (level_in levels 3)))

unfoldable pub lower_lines : List (List Table) → List ℕ
lower_lines levels = level_line 4 (level_in levels 4)
    ++ (level_line 5 (level_in levels 5) ++ level_line 6 (level_in levels 6))

-- a line a level, the last sequence, how many snapshots are live, and `end`
unfoldable pub statistics_text : Held → List ℕ
statistics_text h =
    upper_lines h.slots.version.tables ++ (lower_lines h.slots.version.tables
    ++ (number_line (codes "last ") h.slots.version.last
    ++ (number_line (codes "snapshots ") (length h.snapshots.taken) ++ codes "end\n")))
