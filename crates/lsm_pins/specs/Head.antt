-- The head word of a board: which version is current, in which slot it lies, and how many pins were
-- made of it. This project's rule.
use Rattle.std.specs.Prelude.{ℕ, ◌+◌, ◌*◌, ◌/◌, ◌%◌, ◌^◌}

-- the slot in the 6 highest bits, the id in the next 28, the count in the 30 lowest
abbrev pub head_of : ℕ → ℕ → ℕ → ℕ
head_of slot id count = slot * 2 ^ 58 + id * 2 ^ 30 + count

abbrev pub slot_in : ℕ → ℕ
slot_in word = word / 2 ^ 58

abbrev pub id_in : ℕ → ℕ
id_in word = word / 2 ^ 30 % 2 ^ 28

abbrev pub count_in : ℕ → ℕ
count_in word = word % 2 ^ 30
