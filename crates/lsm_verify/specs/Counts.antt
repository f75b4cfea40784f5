-- How many entries tables have (this project's rule).
use Rattle.std.specs.Prelude.{ℕ, List, length}
use Rattle.std.specs.List.{sum_by}
use Rattle.lsm_table.specs.HeldTable.{entries_in}
use Rattle.lsm_table.specs.Registry.{Table}
use Rattle.lsm_verify.specs.declared.sequences.Sequences.{Sequences}

-- the entries of all tables
abbrev pub count_of : List Table → ℕ
count_of ts = sum_by (λ t. length (entries_in t.image)) ts

-- ---- how the code counts them

abbrev pub counted : List Sequences → ℕ
counted ss = sum_by (λ s. s.count) ss
