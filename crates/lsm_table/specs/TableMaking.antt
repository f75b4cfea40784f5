-- What a builder keeps of the entries that were added.
use Rattle.std.specs.Prelude.{◌≡◌, ℕ, ◌^◌, ◌<◌, ◌≤◌, ◌⊎◌, Bool, true, false, List, [], ◌∷◌, ◌++◌}
use Rattle.std.specs.Prelude.{length, None, Result, Ok, Err}
use Rattle.std.specs.List.{AllByRecursion}
use Rattle.lsm_codec.specs.Entries.{Entry, internal_key}
use Rattle.lsm_block.specs.Block.{IsBlock, Ascends, entry_of}
use Rattle.lsm_block.specs.Building.{block_bytes, Building}
use Rattle.lsm_table.specs.declared.table_options.TableOptions.{TableOptions}
use Rattle.lsm_table.specs.declared.table_fault.TableFault.{TableFault}
use Rattle.lsm_table.specs.Options.{AreInRange}
use Rattle.lsm_table.specs.Handle.{handle_text}
use Rattle.lsm_table.specs.Table.{concat}
use Rattle.lsm_table.specs.TableReading.{data_at}
use Rattle.lsm_table.specs.TableBuilding.{Grouped, is_full, grouped, last_group, data_text, place}
use Rattle.lsm_table.specs.TableBuilding.{index_of, index_block}

-- a table that is being built
pub record Making : Type 0 where
  pub options : TableOptions
  pub entries : List Entry

abbrev pub groups_or_none : Result (List (List Entry)) TableFault → List (List Entry)
groups_or_none (Ok groups) = groups
groups_or_none (Err fault) = []

-- the entries of the closed data blocks, read by their index, and those of the open one
unfoldable pub entries_made : List ℕ → List Entry → List Entry → List Entry
entries_made front index taken = concat (groups_or_none (data_at front 0 None index)) ++ taken

abbrev pub AreFilled : List (List Entry) → Type 0
AreFilled [] = Unit {0}
AreFilled ([] ∷ groups) = ⊥
AreFilled ((e ∷ es) ∷ groups) = AreFilled groups

-- each group's block is one
abbrev pub AreBlocks : ℕ → List (List Entry) → Type 0
AreBlocks interval groups = AllByRecursion (λ group.
    IsBlock (block_bytes interval group) group) groups

-- A block that is full counts as closed, although it is moved to the others only when the next
-- entry comes.
abbrev pub closed_when : Bool → List (List Entry) → List Entry → Grouped
closed_when true groups taken = record { closed = groups ++ taken ∷ []; taken = [] }
closed_when false groups taken = record { closed = groups; taken = taken }

-- The entries, by the text of closed data blocks, the open block, and the index block.
pub record Made (options : TableOptions) (entries : List Entry) (front : List ℕ)
    (taken index : Building) : Type 0 where
  pub groups : List (List Entry)
  pub in_range : AreInRange options
  pub falls : grouped options [] entries
      ≡ closed_when (is_full options taken.entries) groups taken.entries
  pub ascends : Ascends entries
  pub filled : AreFilled groups
  pub blocks : AreBlocks options.restart_interval groups
  pub front_is : front ≡ data_text options.restart_interval groups
  pub index_is : index.entries ≡ index_of options.restart_interval 0 groups
  pub taken_by : taken.interval ≡ options.restart_interval
  pub index_by : index.interval ≡ 1
  pub room : is_full options taken.entries ≡ true
      → length (index_block options.restart_interval (groups ++ last_group taken.entries)) < 2 ^ 32
  pub index_small : length (index_block options.restart_interval groups) < 2 ^ 32
  pub small : length (block_bytes options.restart_interval taken.entries) < 2 ^ 32
  pub short : length front < 2 ^ 63

-- ---- one entry more

-- the index block, with the open block if this entry is its last
abbrev pub index_with : ℕ → Building → Building → Entry → List ℕ
index_with offset taken index e =
    block_bytes index.interval (index.entries
    ++ entry_of (internal_key e)
    (handle_text (place offset (block_bytes taken.interval (taken.entries ++ e ∷ [])))) ∷ [])

-- The entry passes no limit.
pub record HasRoom (options : TableOptions) (offset : ℕ) (taken index : Building) (e : Entry)
    : Type 0 where
  pub block : length (block_bytes taken.interval (taken.entries ++ e ∷ [])) < 2 ^ 32
  pub index_block : options.block_size
      ≤ length (block_bytes taken.interval (taken.entries ++ e ∷ []))
      → length (index_with offset taken index e) < 2 ^ 32

abbrev pub LacksRoom : TableOptions → ℕ → Building → Building → Entry → Type 0
LacksRoom options offset taken index e =
    (2 ^ 32 ≤ length (block_bytes taken.interval (taken.entries ++ e ∷ [])))
    ⊎ ((options.block_size ≤ length (block_bytes taken.interval (taken.entries ++ e ∷ [])))
    × (2 ^ 32 ≤ length (index_with offset taken index e)))
