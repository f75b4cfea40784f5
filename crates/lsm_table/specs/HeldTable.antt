-- A table that was checked, and what is left of it for a reader.
use Rattle.std.specs.Prelude.{◌≡◌, ◌⊎◌, ℕ, List, [], ◌∷◌, ◌++◌, take, drop, Option, Some, None}
use Rattle.std.specs.Prelude.{Result, Ok, Err}
use Rattle.std.specs.List.{flat_map}
use Rattle.lsm_codec.specs.Keys.{InternalKey}
use Rattle.lsm_codec.specs.Entries.{Entry}
use Rattle.lsm_block.specs.Block.{Ascends, IsBlock, entry_of}
use Rattle.lsm_block.specs.Reading.{block_at}
use Rattle.lsm_block.specs.Held.{HeldBlock, block_in}
use Rattle.lsm_table.specs.declared.table_fault.TableFault.{TableFault}
use Rattle.lsm_table.specs.declared.table_fault.TableFault.TheVariants.{BadIndex}
use Rattle.lsm_table.specs.declared.handle.Handle.{Handle}
use Rattle.lsm_table.specs.Reading.{◌>>=◌}
use Rattle.lsm_table.specs.Handle.{IsHandle, handle_at}
use Rattle.lsm_table.specs.StoredBlock.{Holds, contents_at}
use Rattle.lsm_table.specs.Table.{DataBlocks, IsTable, concat}
use Rattle.lsm_table.specs.TableReading.{block_or, table_at}

abbrev pub entries_or_none : Result (List Entry) TableFault → List Entry
entries_or_none (Ok entries) = entries
entries_or_none (Err fault) = []

-- The entries of the table that the bytes are, and none where they are no table. It is computed as
-- a check reads a table, so that a type can carry it. Nothing above uses how: `entries_are` says
-- that these are the entries of every table (`IsTable`, to which there is one list, `one_table`),
-- and of bytes that are no table nothing is said.
unfoldable pub entries_in : List ℕ → List Entry
entries_in bytes = entries_or_none (table_at bytes)

-- The file is a table, whose index block stands there.
pub record HeldTable (file : List ℕ) (index : Handle) : Type 0 where
  pub table : IsTable file (entries_in file)
  pub index_is : table.footer.index ≡ index

-- the entries of the data block that an index entry names
unfoldable pub entries_named : List ℕ → Entry → List Entry
entries_named body i = entries_or_none (handle_at BadIndex i.value >>= λ handle.
    contents_at body handle.0 >>= λ contents. block_or (block_at contents))

-- What is left of a table: the rest of a data block, and the data blocks that these index entries
-- name.
abbrev pub left_of : List ℕ → List Entry → List Entry → List Entry
left_of body here index = here ++ flat_map (entries_named body) index

-- Index entries name data blocks one after another.
pub record Names (body : List ℕ) (index : List Entry) (entries : List Entry) : Type 0 where
  pub bound : Option InternalKey
  pub groups : List (List Entry)
  pub ascends : Ascends index
  pub blocks : DataBlocks body bound index groups
  pub entries_are : concat groups ≡ entries

-- A block of these entries stands there.
pub record BlockAt (body : List ℕ) (handle : Handle) (entries : List Entry) : Type 0 where
  pub contents : List ℕ
  pub held : Holds body handle contents
  pub block : IsBlock contents entries

-- what stands there, read as a block
abbrev pub block_there : List ℕ → Handle → HeldBlock
block_there body handle = block_in (take handle.size (drop handle.offset body))

abbrev pub IsSpelled : List ℕ → Type 0
IsSpelled bytes = (handle : Handle) × IsHandle bytes handle

-- The bytes spell this handle and no other one.
abbrev pub SpellsJust : List ℕ → Handle → Type 0
SpellsJust bytes handle = (other : Handle) → IsHandle bytes other → handle ≡ other

-- ---- going through a table

-- what is left of a table, and the key of the entry that was given last
pub record Walk : Type 0 where
  pub last : Option InternalKey
  pub left : List Entry

abbrev pub AreNamed : List ℕ → List Entry → Type 0
AreNamed body index = (entries : List Entry) × Names body index entries

-- What a refused step leaves: all entries that were left, and the last key or none.
pub record Refused (old new : Walk) : Type 0 where
  pub left : new.left ≡ old.left
  pub last : (new.last ≡ old.last) ⊎ (new.last ≡ None)

-- What a step hands out: nothing where no entry is left, and then the last key stays; else the
-- value of the next entry, whose key is then the last.
abbrev pub Steps : Walk → Walk → Option (List ℕ) → Type 0
Steps old new None = (old.left ≡ []) × (new.left ≡ []) × (new.last ≡ old.last)
Steps old new (Some value) = (key : InternalKey) × (new.last ≡ Some key)
    × (old.left ≡ entry_of key value ∷ new.left)
