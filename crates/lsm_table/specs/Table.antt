-- What a table is: data blocks, a metaindex block, an index block and a footer (LevelDB's
-- `doc/table_format.md`).
use Rattle.std.specs.Prelude.{◌≡◌, ℕ, ◌+◌, ◌≤◌, true, List, [], ◌∷◌, ◌++◌, Option, Some, None}
use Rattle.std.specs.List.{flat_map}
use Rattle.std.specs.Ordering.{is_le}
use Rattle.std.specs.declared.cmp.Ordering.TheVariants.{Less}
use Rattle.lsm_codec.specs.Keys.{InternalKey, IsKey, key_cmp}
use Rattle.lsm_codec.specs.Entries.{Entry, internal_key, entry_cmp}
use Rattle.lsm_block.specs.Block.{IsBlock}
use Rattle.lsm_table.specs.declared.handle.Handle.{Handle}
use Rattle.lsm_table.specs.declared.footer.Footer.{Footer}
use Rattle.lsm_table.specs.Handle.{IsHandle}
use Rattle.lsm_table.specs.StoredBlock.{Holds}
use Rattle.lsm_table.specs.Footer.{IsFooter}

-- The value of an index entry names a data block of these entries in the part before the footer.
pub record DataBlock (body value : List ℕ) (entries : List Entry) : Type 0 where
  pub handle : Handle
  pub contents : List ℕ
  pub handle_is : IsHandle value handle
  pub held : Holds body handle contents
  pub block : IsBlock contents entries

-- the entry comes after this index key, where there is one
abbrev pub IsAfter : Option InternalKey → Entry → Type 0
IsAfter None e = Unit {0}
IsAfter (Some bound) e = key_cmp bound (internal_key e) ≡ Less

abbrev pub last_of : Entry → List Entry → Entry
last_of e [] = e
last_of e (f ∷ fs) = last_of f fs

-- The index names one data block after the other, each with an entry. Its keys part them: each is
-- at least the last key of its data block, and less than the first key of the next.
abbrev pub DataBlocks : List ℕ → Option InternalKey → List Entry → List (List Entry) → Type 0
DataBlocks body bound [] [] = Unit {0}
DataBlocks body bound [] (group ∷ groups) = ⊥
DataBlocks body bound (i ∷ index) [] = ⊥
DataBlocks body bound (i ∷ index) ([] ∷ groups) = ⊥
DataBlocks body bound (i ∷ index) ((e ∷ es) ∷ groups) =
    DataBlock body i.value (e ∷ es) × IsAfter bound e × (is_le (entry_cmp (last_of e es) i) ≡ true)
    × DataBlocks body (Some (internal_key i)) index groups

-- The handles of index values name data blocks one behind the other: the first begins at this
-- offset or behind it, and each other one where the trailer before it ends, or behind that (this
-- project's rule: no byte is in two data blocks).
abbrev pub AreApart : ℕ → List Entry → Type 0
AreApart from [] = Unit {0}
AreApart from (i ∷ index) = (handle : Handle) × IsHandle i.value handle × (from ≤ handle.offset)
    × AreApart (handle.offset + handle.size + 5) index

abbrev pub concat : List (List Entry) → List Entry
concat groups = flat_map (λ group. group) groups

-- The bytes are a table of the entries. The metaindex is not followed, so that a table with a
-- filter block is one too.
pub record IsTable (bytes : List ℕ) (entries : List Entry) : Type 0 where
  pub body : List ℕ
  pub footer_text : List ℕ
  pub footer : Footer
  pub contents : List ℕ
  pub index : List Entry
  pub groups : List (List Entry)
  pub bytes_are : bytes ≡ body ++ footer_text
  pub footed : IsFooter footer_text footer
  pub held : Holds body footer.index contents
  pub indexed : IsBlock contents index
  pub blocks : DataBlocks body None index groups
  pub apart : AreApart 0 index
  pub entries_are : concat groups ≡ entries

-- a table of these entries, of which there is one at least, and its first and last internal key
pub record IsImage (entries : List Entry) (smallest largest image : List ℕ) : Type 0 where
  pub first : Entry
  pub rest : List Entry
  pub front : List Entry
  pub last : Entry
  pub table : IsTable image entries
  pub begins : entries ≡ first ∷ rest
  pub ends : entries ≡ front ++ last ∷ []
  pub smallest_is : IsKey smallest (internal_key first)
  pub largest_is : IsKey largest (internal_key last)
