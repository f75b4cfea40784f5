-- The table of a batch, before and after it is put.
use Rattle.std.specs.Prelude.{◌≡◌, ◌^◌, ◌≤◌, ◌⊎◌, length, List, ◌∷◌, ◌++◌}
use Rattle.lsm_codec.specs.Entries.{Entry}
use Rattle.lsm_table.specs.Table as table
use Rattle.lsm_table.specs.TableBuilding.{PassesLimit, groups_by, index_block}
use Rattle.lsm_table.specs.declared.table_options.TableOptions.{TableOptions}
pub use Rattle.lsm_table.specs.TableImage.{Imaged, IsPutAs, IsPutRefusal}

-- it is the table of these entries, of which there is one at least
abbrev pub IsImage : List Entry → Imaged → Type 0
IsImage entries i = table.IsImage entries i.smallest i.largest i.bytes

-- ---- limits of a table

-- one of the entries would pass a limit of the blocks of a table
abbrev pub PassesIn : TableOptions → List Entry → Type 0
PassesIn options es = (front : List Entry) × (e : Entry) × (rest : List Entry)
    × (es ≡ front ++ e ∷ rest) × PassesLimit options front e

-- so would one of them, or the index block of all
abbrev pub PassesTable : TableOptions → List Entry → Type 0
PassesTable options es = PassesIn options es
    ⊎ (2 ^ 32 ≤ length (index_block options.restart_interval (groups_by options es)))
