-- Reading a table: its footer, its index block, and then for each index entry its value, its data
-- block and its keys; the entries, or the first fault in this order.
use Rattle.std.specs.Prelude.{ℕ, ◌+◌, ◌==◌, ◌&&◌, nat_le, Bool, true, false, List, [], ◌∷◌, length, Option, Some}
use Rattle.std.specs.Prelude.{None, Result, Ok, Err}
use Rattle.std.specs.Ordering.{is_lt, is_le}
use Rattle.lsm_codec.specs.Keys.{InternalKey, key_cmp}
use Rattle.lsm_codec.specs.Entries.{Entry, internal_key, entry_cmp}
use Rattle.lsm_block.specs.declared.fault.BlockFault.{BlockFault}
use Rattle.lsm_block.specs.Reading.{block_at}
use Rattle.lsm_table.specs.declared.handle.Handle.{Handle}
use Rattle.lsm_table.specs.declared.table_fault.TableFault.{TableFault}
use Rattle.lsm_table.specs.declared.table_fault.TableFault.TheVariants.{BadIndex}
use Rattle.lsm_table.specs.Fault.{of_block}
use Rattle.lsm_table.specs.Reading.{◌>>=◌, guarded}
use Rattle.lsm_table.specs.Handle.{handle_at}
use Rattle.lsm_table.specs.StoredBlock.{contents_at}
use Rattle.lsm_table.specs.Footer.{footer_at, body_of}
use Rattle.lsm_table.specs.Table.{last_of, concat}

-- what reading a block gives, as a step of reading a table
abbrev pub block_or : Result (List Entry) BlockFault → Result (List Entry) TableFault
block_or (Ok entries) = Ok entries
block_or (Err fault) = Err (of_block fault)

abbrev pub is_after : Option InternalKey → Entry → Bool
is_after None e = true
is_after (Some bound) e = is_lt (key_cmp bound (internal_key e))

-- Whether a data block has an entry, and its entries lie between the index key before and its own.
abbrev pub are_placed : Option InternalKey → Entry → List Entry → Bool
are_placed bound i [] = false
are_placed bound i (e ∷ es) = is_after bound e && is_le (entry_cmp (last_of e es) i)

-- the data block of an index entry
unfoldable pub data_block_at : List ℕ → Option InternalKey → Entry → Result (List Entry) TableFault
data_block_at body bound i = do
  handle ← handle_at BadIndex i.value
  contents ← guarded (length handle.1 == 0) BadIndex (contents_at body handle.0)
  entries ← block_or (block_at contents)
  guarded (are_placed bound i entries) BadIndex (Ok entries)

-- whether the handle that is read begins at this offset or behind it
abbrev pub begins_behind : ℕ → Result (Handle × List ℕ) TableFault → Bool
begins_behind from (Ok handle) = nat_le from handle.0.offset
begins_behind from (Err fault) = false

-- the end of the block whose handle is read, its trailer with it
abbrev pub end_after : Result (Handle × List ℕ) TableFault → ℕ
end_after (Ok handle) = handle.0.offset + handle.0.size + 5
end_after (Err fault) = 0

-- whether the value of an index entry names a block at this offset or behind it
unfoldable pub stands_behind : ℕ → List ℕ → Bool
stands_behind from value = begins_behind from (handle_at BadIndex value)

-- where the block ends that the value of an index entry names
unfoldable pub end_of : List ℕ → ℕ
end_of value = end_after (handle_at BadIndex value)

-- the data block of an index entry, which does not begin before this offset
abbrev pub block_behind : List ℕ → ℕ → Option InternalKey → Entry
    → Result (List Entry) TableFault
block_behind body from bound i =
    guarded (stands_behind from i.value) BadIndex (data_block_at body bound i)

-- the data blocks of index entries, the first of which does not begin before this offset
unfoldable pub data_at : List ℕ → ℕ → Option InternalKey → List Entry
    → Result (List (List Entry)) TableFault
data_at body from bound [] = Ok []
data_at body from bound (i ∷ index) = do
  entries ← block_behind body from bound i
  groups ← data_at body (end_of i.value) (Some (internal_key i)) index
  Ok (entries ∷ groups)

-- the entries of a table, or the first fault
unfoldable pub table_at : List ℕ → Result (List Entry) TableFault
table_at bytes = do
  footer ← footer_at bytes
  contents ← contents_at (body_of bytes) footer.index
  index ← block_or (block_at contents)
  groups ← data_at (body_of bytes) 0 None index
  Ok (concat groups)
