-- How the tables of a level lie by their smallest and largest internal keys (LevelDB's
-- `doc/impl.md`, "Levels").
use Rattle.std.specs.Prelude.{◌⊎◌, ℕ, ◌<◌, ◌≤◌, List, [], ◌∷◌}
use Rattle.lsm_codec.specs.Keys.{IsKey}
use Rattle.lsm_table.specs.Registry.{Table}
use Rattle.lsm_model.specs.Ranges.{Range, IsLaidOut}
use Rattle.lsm_version.specs.Versions.{AreWhole, level_in}
use Rattle.lsm_model.specs.declared.key_range.Layout.{Layout}
use Rattle.lsm_model.specs.declared.key_range.Layout.TheVariants as layout
use Rattle.lsm_verify.specs.declared.check_fault.CheckFault.{CheckFault}
use Rattle.lsm_verify.specs.declared.check_fault.CheckFault.TheVariants.{Read, DoubleFile, Overlap}
use Rattle.lsm_verify.specs.declared.check_fault.CheckFault.TheVariants.{WrongRange, AgeOrder}
use Rattle.lsm_verify.specs.FileRefusal.{NamesNone}

abbrev pub AreLevelsWhole : List (List Table) → Type 0
AreLevelsWhole [] = Unit {0}
AreLevelsWhole (ts ∷ levels) = AreWhole ts × AreLevelsWhole levels

-- the tables' ranges of internal keys
abbrev pub AreRangesOf : List Table → List Range → Type 0
AreRangesOf [] [] = Unit {0}
AreRangesOf [] (r ∷ rs) = ⊥
AreRangesOf (t ∷ ts) [] = ⊥
AreRangesOf (t ∷ ts) (r ∷ rs) =
    IsKey t.smallest r.smallest × IsKey t.largest r.largest × AreRangesOf ts rs

-- the tables of a level lie so
abbrev pub LieAs : List Table → Layout → Type 0
LieAs ts layout = (ranges : List Range) × AreRangesOf ts ranges × IsLaidOut ranges layout

-- no two tables of the level meet in internal keys
abbrev pub MeetNowhere : List Table → Type 0
MeetNowhere ts = LieAs ts layout.Shared ⊎ LieAs ts layout.Apart

-- The least level from 1 on with two tables that meet in internal keys.
abbrev pub IsLayoutRefusal : List (List Table) → CheckFault → Type 0
IsLayoutRefusal levels (Read number fault) = NamesNone number fault
IsLayoutRefusal levels (Overlap level) =
    (1 ≤ level) × (level ≤ 6) × LieAs (level_in levels level) layout.Overlap
    × ((n : ℕ) → 1 ≤ n → n < level → MeetNowhere (level_in levels n))
IsLayoutRefusal levels (DoubleFile number) = ⊥
IsLayoutRefusal levels (WrongRange number) = ⊥
IsLayoutRefusal levels (AgeOrder user) = ⊥

-- no two tables of a level from 1 on meet in internal keys
abbrev pub LieInOrder : List (List Table) → Type 0
LieInOrder levels = (n : ℕ) → 1 ≤ n → n ≤ 6 → MeetNowhere (level_in levels n)
