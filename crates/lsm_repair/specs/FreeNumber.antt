-- A file number that no file of a folder has, the least above all (LevelDB's `db/repair.cc` takes
-- one above all too): `IsLeastUnused` of `lsm_opening`; and when there is none.
use Rattle.std.specs.Prelude.{ℕ, ◌-◌, ◌^◌, ◌≤◌, List}
use Rattle.lsm_opening.specs.Names.{IsNumbered}

-- the file of this name has a number above which there are no two for a table and a manifest
abbrev pub IsHigh : List ℕ → Type 0
IsHigh name = (m : ℕ) × IsNumbered m name × (2 ^ 64 - 3 ≤ m)
