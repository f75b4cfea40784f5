-- The inputs of a job, as the merge reads them: at level 0 each table by itself, else those of a
-- level one after another.
use Rattle.std.specs.Prelude.{◌≡◌, ℕ, List, ◌++◌, map, cond, Option, Some}
use Rattle.std.specs.List.{flat_map}
use Rattle.lsm_codec.specs.Lists.{Has}
use Rattle.lsm_codec.specs.Entries.{Entry}
use Rattle.lsm_table.specs.Registry.{Table, image_of}
use Rattle.lsm_table.specs.declared.read_fault.ReadFault.TheVariants as read
use Rattle.lsm_model.specs.Merging.{Placed, entries_of}
use Rattle.lsm_iterators.specs.Runs.{Left, entries_of_all}
use Rattle.lsm_merge.specs.declared.merge_fault.InputFault.TheVariants.{Read, OutOfOrder}
use Rattle.lsm_merge.specs.declared.merge_fault.MergeFault.{MergeFault}
use Rattle.lsm_merge.specs.declared.merge_fault.MergeFault.TheVariants.{OutOfMemory, ReadFailed}
use Rattle.lsm_merge.specs.declared.merge_fault.MergeFault.TheVariants.{PutFailed, UnknownTicket}
use Rattle.lsm_merge.specs.declared.merge_fault.MergeFault.TheVariants.{NumbersSpent}
use Rattle.lsm_merge.specs.Dropping.{Follows, placed, is_kept}
use Rattle.lsm_merge.specs.Outputs.{Goes, Made, making_of}
use Rattle.lsm_merge.specs.Work.{Work, finished}
use Rattle.lsm_merge.specs.Remembered.{bare}

abbrev pub numbers_of : List Table → List ℕ
numbers_of ts = map (λ t. t.number) ts

abbrev pub entries_of_tables : List Table → List Entry
entries_of_tables ts = entries_of_all (map image_of ts)

-- the numbers of a job's inputs
abbrev pub input_numbers : Work → List ℕ
input_numbers w = numbers_of w.upper ++ numbers_of w.lower

-- what is left of each run, one after another
abbrev pub streams : List Left → List Entry
streams runs = entries_of (flat_map (λ r. r.placed) runs)

-- the numbers of the files that are left of each run
abbrev pub files_in : List Left → List ℕ
files_in runs = map (λ f. f.1) (flat_map (λ r. r.files) runs)

-- these files are inputs
abbrev pub AreInputs : List (ℕ × ℕ) → List ℕ → Type 0
AreInputs files inputs = (f : ℕ × ℕ) → Has files f → Has inputs f.1

-- what is wrong is not the bytes of an input
abbrev pub IsReadable : MergeFault → Type 0
IsReadable OutOfMemory = Unit {0}
IsReadable (ReadFailed number (Read (read.Shelf fault))) = Unit {0}
IsReadable (ReadFailed number (Read (read.Table fault))) = ⊥
IsReadable (ReadFailed number OutOfOrder) = Unit {0}
IsReadable (PutFailed number fault) = Unit {0}
IsReadable (UnknownTicket ticket) = Unit {0}
IsReadable NumbersSpent = Unit {0}

-- it comes of reading an input
abbrev pub IsOfReading : MergeFault → Type 0
IsOfReading OutOfMemory = Unit {0}
IsOfReading (ReadFailed number (Read fault)) = Unit {0}
IsOfReading (ReadFailed number OutOfOrder) = ⊥
IsOfReading (PutFailed number fault) = ⊥
IsOfReading (UnknownTicket ticket) = ⊥
IsOfReading NumbersSpent = ⊥

-- an input's next entry does not stand after the one before it
abbrev pub IsOrderFault : MergeFault → Type 0
IsOrderFault OutOfMemory = ⊥
IsOrderFault (ReadFailed number (Read fault)) = ⊥
IsOrderFault (ReadFailed number OutOfOrder) = Unit {0}
IsOrderFault (PutFailed number fault) = ⊥
IsOrderFault (UnknownTicket ticket) = ⊥
IsOrderFault NumbersSpent = ⊥

-- A step of the merge: the entry at hand stands after the one before; it is dropped or placed, and
-- remembered; over an honest shelf the rest is left.
pub record Stepped (Honest : Type 0) (w : Work) (p : Placed) (rest : List Placed)
    (before before' : Option Entry) (m m' : Made) (left' : Left) : Type 0 where
  pub follows : Follows before p.1
  pub goes : Goes m m' (cond (is_kept w.floor w.ranges before p.1)
      (placed (finished m.options) m.target (making_of m) p.1) (making_of m))
  pub before_is : before' ≡ Some (bare p.1)
  pub left : Honest → left'.placed ≡ rest
