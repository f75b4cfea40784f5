-- Tables that become one, with all their entries (this project's rule).
use Rattle.std.specs.Prelude.{◌≡◌, ℕ, ◌⊎◌, ◌↔◌, List, [], ◌∷◌, ◌++◌, Option, Some}
use Rattle.lsm_codec.specs.Lists.{Has}
use Rattle.lsm_codec.specs.Entries.{Entry}
use Rattle.lsm_shelf.specs.Told.{Told, Becomes, putting}
use Rattle.lsm_table.specs.TableBuilding.{table_bytes}
use Rattle.lsm_table.specs.declared.table_options.TableOptions.{TableOptions}
use Rattle.lsm_model.specs.Files.{all_entries}
use Rattle.lsm_model.specs.Merging.{Placed, entries_of}
use Rattle.lsm_model.specs.Streams.{IsAscending, IsMerge}
use Rattle.lsm_iterators.specs.Runs.{Left}
use Rattle.lsm_merge.specs.declared.merge_fault.MergeFault.{MergeFault}
use Rattle.lsm_merge.specs.declared.merge_fault.MergeFault.TheVariants.{OutOfMemory, ReadFailed}
use Rattle.lsm_merge.specs.declared.merge_fault.MergeFault.TheVariants.{PutFailed, UnknownTicket}
use Rattle.lsm_merge.specs.declared.merge_fault.MergeFault.TheVariants.{NumbersSpent}
use Rattle.lsm_merge.specs.Dropping.{AscendingAfter, IsUpTo}
use Rattle.lsm_merge.specs.InputOrder.{HasTwins, StandInOrder}
use Rattle.lsm_merge.specs.Inputs.{AreInputs, input_numbers}
use Rattle.lsm_merge.specs.Outputs.{Unfinished}
use Rattle.lsm_merge.specs.Remembered.{bare}
use Rattle.lsm_merge.specs.Work.{Work, job_of}

-- both have the same entries
abbrev pub HasEachOf : List Entry → List Entry → Type 0
HasEachOf es fs = (e : Entry) → Has es e ↔ Has fs e

-- No source of numbers refused; and an output that could not be put has this number.
abbrev pub IsOfOneOutput : ℕ → MergeFault → Type 0
IsOfOneOutput number OutOfMemory = Unit {0}
IsOfOneOutput number (ReadFailed input fault) = Unit {0}
IsOfOneOutput number (PutFailed output fault) = output ≡ number
IsOfOneOutput number (UnknownTicket ticket) = ⊥
IsOfOneOutput number NumbersSpent = ⊥

-- The shelf was told to put nothing; or what the builder makes of some entries with these sizes,
-- under this number.
abbrev pub PutsAtMost : ℕ → TableOptions → Told → Told → Type 0
PutsAtMost number sizes was is = Becomes was is
    ⊎ ((es : List Entry) × Becomes (putting number (table_bytes sizes es) was) is)

-- The entry at hand came behind these into the table in the making; it is the one before, and over
-- an honest shelf the rest is left.
pub record TakesIn (Honest : Type 0) (number : ℕ) (sizes : TableOptions) (es : List Entry)
    (p : Placed) (rest : List Placed) (output : Unfinished) (before : Option Entry) (left : Left)
    : Type 0 where
  pub is : output ≡ record { number = number; options = sizes; entries = es ++ p.1 ∷ [] }
  pub before_is : before ≡ Some (bare p.1)
  pub left_is : Honest → left.placed ≡ rest

-- those in the table in the making, and those that are left
abbrev pub all_of : Unfinished → Left → List Entry
all_of output left = output.entries ++ entries_of left.placed

-- A table is in the making. Over an honest shelf, with the entries that are left, it has those of
-- the inputs.
pub record IsInTheMaking (Honest : Type 0) (w : Work) (number : ℕ) (output : Unfinished)
    (before : Option Entry) (left : Left) (was is : Told) : Type 0 where
  pub number_is : output.number ≡ number
  pub sizes : output.options ≡ w.table
  pub up : IsUpTo output.entries before
  pub told : Becomes was is
  pub files : AreInputs left.files (input_numbers w)
  pub merges : Honest → IsAscending (all_of output left)
      → IsMerge (all_of output left) (all_entries (job_of w).inputs)
  pub order : Honest → StandInOrder w → (IsAscending (all_of output left) → ⊥)
      → HasTwins (all_entries (job_of w).inputs)
  pub after : Honest → IsAscending (all_of output left)
      → AscendingAfter before (entries_of left.placed)
