-- Outputs that cannot be built: no block of a table passes 2^32 - 1 bytes (this project's rule).
use Rattle.std.specs.Prelude.{◌≡◌, ◌^◌, ◌≤◌, ◌⊎◌, List, [], ◌∷◌, ◌++◌, length}
use Rattle.lsm_codec.specs.Lists.{Has}
use Rattle.lsm_codec.specs.Entries.{Entry}
use Rattle.lsm_block.specs.Block.{Ascends}
use Rattle.lsm_table.specs.TableBuilding.{PassesLimit, groups_by, index_block}
use Rattle.lsm_table.specs.declared.table_options.TableOptions.{TableOptions}
use Rattle.lsm_merge.specs.declared.merge_fault.InputFault.TheVariants.{Read, OutOfOrder}
use Rattle.lsm_merge.specs.declared.merge_fault.OutputFault.TheVariants.{TooLarge, Shelf}
use Rattle.lsm_merge.specs.declared.merge_fault.MergeFault.{MergeFault}
use Rattle.lsm_merge.specs.declared.merge_fault.MergeFault.TheVariants.{OutOfMemory, ReadFailed}
use Rattle.lsm_merge.specs.declared.merge_fault.MergeFault.TheVariants.{PutFailed, UnknownTicket}
use Rattle.lsm_merge.specs.declared.merge_fault.MergeFault.TheVariants.{NumbersSpent}

-- No table has these entries: with the last one a data block passes the limit, or the index block
-- does, or the table's index block does in the end.
abbrev pub HasNoTable : TableOptions → List Entry → Type 0
HasNoTable options es =
    ((front : List Entry) × (last : Entry) × (es ≡ front ++ last ∷ [])
    × PassesLimit options front last)
    ⊎ (2 ^ 32 ≤ length (index_block options.restart_interval (groups_by options es)))

-- Of some of the entries, in order, there is no table.
pub record IsOverLimit (options : TableOptions) (es : List Entry) : Type 0 where
  pub some : List Entry
  pub ascends : Ascends some
  pub from : (e : Entry) → Has some e → Has es e
  pub over : HasNoTable options some

-- an output could not be built
abbrev pub IsSizeFault : MergeFault → Type 0
IsSizeFault OutOfMemory = ⊥
IsSizeFault (ReadFailed number (Read fault)) = ⊥
IsSizeFault (ReadFailed number OutOfOrder) = ⊥
IsSizeFault (PutFailed number TooLarge) = Unit {0}
IsSizeFault (PutFailed number (Shelf fault)) = ⊥
IsSizeFault (UnknownTicket ticket) = ⊥
IsSizeFault NumbersSpent = ⊥
