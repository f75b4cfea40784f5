-- What a table is whose blocks may be compressed: data blocks, a metaindex block, an index block
-- and a footer (LevelDB's `doc/table_format.md`), as `IsTable` of `lsm_table` is, with the contents
-- of each block as its type byte says.
use Rattle.std.specs.Prelude.{◌≡◌, true, ℕ, List, [], ◌∷◌, ◌++◌, Option, Some, None, Result, Ok}
use Rattle.std.specs.Prelude.{Err}
use Rattle.std.specs.List.{AllByRecursion}
use Rattle.std.specs.Ordering.{is_le}
use Rattle.lsm_codec.specs.Keys.{InternalKey, key_cmp}
use Rattle.lsm_codec.specs.Entries.{Entry, internal_key}
use Rattle.lsm_block.specs.Block.{Ascends, IsBlock}
use Rattle.lsm_table.specs.declared.handle.Handle.{Handle}
use Rattle.lsm_table.specs.declared.footer.Footer.{Footer}
use Rattle.lsm_table.specs.declared.table_fault.TableFault.TheVariants.{OutOfMemory}
use Rattle.lsm_table.specs.Handle.{IsHandle}
use Rattle.lsm_table.specs.Footer.{IsFooter}
use Rattle.lsm_table.specs.Table.{AreApart, IsAfter, IsImage, concat}
use Rattle.lsm_inflate.specs.declared.inflate_fault.InflateFault.{InflateFault}
use Rattle.lsm_inflate.specs.declared.inflate_fault.InflateFault.TheVariants.{Table, TooLarge}
use Rattle.lsm_inflate.specs.declared.plain_table.PlainTable.{PlainTable}
use Rattle.lsm_inflate.specs.StoredContents.{HoldsPacked}

-- The value of an index entry names a data block of these entries in the part before the footer.
pub record PackedBlock (body value : List ℕ) (entries : List Entry) : Type 0 where
  pub handle : Handle
  pub contents : List ℕ
  pub handle_is : IsHandle value handle
  pub held : HoldsPacked body handle contents
  pub block : IsBlock contents entries

-- The entry lies after the index key before its data block, and not behind the block's own.
abbrev pub Lies : Option InternalKey → InternalKey → Entry → Type 0
Lies bound key e = IsAfter bound e × (is_le (key_cmp (internal_key e) key) ≡ true)

-- The index names one data block after the other, and its keys part them.
abbrev pub PackedBlocks : List ℕ → Option InternalKey → List Entry → List (List Entry) → Type 0
PackedBlocks body bound [] [] = Unit {0}
PackedBlocks body bound [] (group ∷ groups) = ⊥
PackedBlocks body bound (i ∷ index) [] = ⊥
PackedBlocks body bound (i ∷ index) (group ∷ groups) =
    PackedBlock body i.value group × AllByRecursion (Lies bound (internal_key i)) group
    × PackedBlocks body (Some (internal_key i)) index groups

-- The bytes are a table of the entries, whose blocks may be compressed. The metaindex is not
-- followed, so that a filter block is left out.
pub record IsPackedTable (bytes : List ℕ) (entries : List Entry) : Type 0 where
  pub body : List ℕ
  pub footer_text : List ℕ
  pub footer : Footer
  pub contents : List ℕ
  pub index : List Entry
  pub groups : List (List Entry)
  pub bytes_are : bytes ≡ body ++ footer_text
  pub footed : IsFooter footer_text footer
  pub held : HoldsPacked body footer.index contents
  pub indexed : IsBlock contents index
  pub blocks : PackedBlocks body None index groups
  pub apart : AreApart 0 index
  pub ascends : Ascends entries
  pub entries_are : concat groups ≡ entries

-- ---- what is made of it

-- the image of the plain table of these entries, or nothing where there are none
abbrev pub IsPlain : List Entry → Option PlainTable → Type 0
IsPlain es None = es ≡ []
IsPlain es (Some plain) = IsImage es plain.smallest plain.largest plain.bytes.items

-- memory ran out, or a block of the plain table would pass 2^32 - 1 bytes
abbrev pub IsWant : InflateFault → Type 0
IsWant (Table OutOfMemory) = Unit {0}
IsWant TooLarge = Unit {0}
IsWant fault = ⊥

-- the plain table of these entries was made, or there was no room
abbrev pub MakesPlain : List Entry → Result (Option PlainTable) InflateFault → Type 0
MakesPlain es (Ok plain) = IsPlain es plain
MakesPlain es (Err fault) = IsWant fault
