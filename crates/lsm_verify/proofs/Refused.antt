-- The refusals of the parts of a check are those of the whole.
use Rattle.std.proofs.Common.{ℕ, List, inl, inr}
use Rattle.lsm_shelf.specs.declared.shelf_fault.ShelfFault.{ShelfFault}
use Rattle.lsm_table.specs.Registry.{Table}
use Rattle.lsm_manifest.specs.declared.shape.Shape.{Shape}
use Rattle.lsm_verify.specs.declared.check_fault.CheckFault.{CheckFault}
use Rattle.lsm_verify.specs.declared.check_fault.CheckFault.TheVariants.{Read, DoubleFile, Overlap, WrongRange, AgeOrder}
use Rattle.lsm_verify.specs.CheckRefusal.{AreTablesOf, IsAgeRefusal, IsRefusal}
use Rattle.lsm_version.specs.FileNumbers.{AreDistinct, numbers_of}
use Rattle.lsm_verify.specs.FileRefusal.{IsFilesRefusal}
use Rattle.lsm_verify.specs.LevelLayouts.{IsLayoutRefusal, LieInOrder}
use Rattle.lsm_verify.specs.Loading.{all_files}
use Rattle.lsm_version.specs.Versions.{files_from}

pub layout_refused : (Stored : ℕ → List ℕ → Type 0) (Refused : ℕ → ShelfFault → Type 0) (Honest : Type 0) (shape : Shape) (tables : List (List Table)) (fault : CheckFault) → AreTablesOf Stored shape tables → IsLayoutRefusal tables fault → IsRefusal Stored Refused Honest shape fault
layout_refused Stored Refused Honest shape tables (Read file fault) a r = inl r
layout_refused Stored Refused Honest shape tables (DoubleFile number) a r = absurd r
layout_refused Stored Refused Honest shape tables (Overlap level) a r = (tables, a, r)
layout_refused Stored Refused Honest shape tables (WrongRange number) a r = absurd r
layout_refused Stored Refused Honest shape tables (AgeOrder user) a r = absurd r

pub ages_refused : (Stored : ℕ → List ℕ → Type 0) (Refused : ℕ → ShelfFault → Type 0) (Honest : Type 0) (shape : Shape) (tables : List (List Table)) (fault : CheckFault) → AreTablesOf Stored shape tables → LieInOrder tables
    → IsAgeRefusal Honest (files_from 0 tables) fault → IsRefusal Stored Refused Honest shape fault
ages_refused Stored Refused Honest shape tables (Read file fault) a l r = inr (inr (tables, a, l, r))
ages_refused Stored Refused Honest shape tables (DoubleFile number) a l r = absurd r
ages_refused Stored Refused Honest shape tables (Overlap level) a l r = absurd r
ages_refused Stored Refused Honest shape tables (WrongRange number) a l r = absurd r
ages_refused Stored Refused Honest shape tables (AgeOrder user) a l r = (tables, a, l, r)

pub files_refused : (Stored : ℕ → List ℕ → Type 0) (Refused : ℕ → ShelfFault → Type 0) (Honest : Type 0) (shape : Shape) (fault : CheckFault) → AreDistinct (numbers_of shape.levels) → IsFilesRefusal Stored Refused shape.last (all_files shape.levels) fault
    → IsRefusal Stored Refused Honest shape fault
files_refused Stored Refused Honest shape (Read file fault) d r = inr (inl (d, r))
files_refused Stored Refused Honest shape (DoubleFile number) d (inl w) = absurd w
files_refused Stored Refused Honest shape (DoubleFile number) d (inr (front, file, back, is, good, r)) = absurd r
files_refused Stored Refused Honest shape (Overlap level) d (inl w) = absurd w
files_refused Stored Refused Honest shape (Overlap level) d (inr (front, file, back, is, good, r)) = absurd r
files_refused Stored Refused Honest shape (WrongRange number) d r = (d, r)
files_refused Stored Refused Honest shape (AgeOrder user) d (inl w) = absurd w
files_refused Stored Refused Honest shape (AgeOrder user) d (inr (front, file, back, is, good, r)) = absurd r
