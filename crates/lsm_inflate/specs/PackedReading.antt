-- Reading a table whose blocks may be compressed, into a plain one: the footer, the index block,
-- and then for each index entry its value, its data block and its entries one after another; the
-- plain table, or the first fault in this order (this project's rule).
use Rattle.std.specs.Prelude.{ℕ, ◌^◌, ◌==◌, ◌&&◌, ◌||◌, not, nat_lt, nat_le, List, [], ◌∷◌, ◌++◌}
use Rattle.std.specs.Prelude.{length}
use Rattle.std.specs.Prelude.{Bool, Option, Some, None, Result, Ok}
use Rattle.std.specs.Ordering.{is_le}
use Rattle.lsm_codec.specs.Keys.{InternalKey, key_cmp}
use Rattle.lsm_codec.specs.Entries.{Entry, internal_key}
use Rattle.lsm_block.specs.Building.{after_last, block_bytes, last_key}
use Rattle.lsm_block.specs.Reading.{block_at}
use Rattle.lsm_table.specs.declared.table_options.TableOptions.{TableOptions}
use Rattle.lsm_table.specs.declared.table_fault.TableFault.TheVariants.{BadIndex}
use Rattle.lsm_table.specs.declared.handle.Handle.{Handle}
use Rattle.lsm_table.specs.Handle.{handle_at}
use Rattle.lsm_table.specs.Footer.{footer_at, body_of}
use Rattle.lsm_table.specs.TableReading.{block_or, is_after, end_of}
use Rattle.lsm_table.specs.TableBuilding.{is_full, taken_with, groups_by, index_block, table_bytes}
use Rattle.lsm_inflate.specs.declared.inflate_fault.InflateFault.{InflateFault}
use Rattle.lsm_inflate.specs.declared.inflate_fault.InflateFault.TheVariants.{Table, TooLarge}
use Rattle.lsm_inflate.specs.Reading.{◌>>=◌, guarded, lifted}
use Rattle.lsm_inflate.specs.StoredContents.{contents_at}

-- ---- one entry more

-- whether the entry lies after the index key before its data block, and not behind the block's own
abbrev pub lies : Option InternalKey → InternalKey → Entry → Bool
lies bound key e = is_after bound e && is_le (key_cmp (internal_key e) key)

-- whether the plain table stays within its limits (`PassesLimit` of `lsm_table`)
abbrev pub has_room : TableOptions → List Entry → Entry → Bool
has_room options made e =
    nat_lt (length (block_bytes options.restart_interval (taken_with options made e))) (2 ^ 32)
    && (not (is_full options (taken_with options made e))
    || nat_lt (length (index_block options.restart_interval
    (groups_by options (made ++ e ∷ [])))) (2 ^ 32))

abbrev pub added_at : TableOptions → List Entry → Entry → Result (List Entry) InflateFault
added_at options made e = guarded (has_room options made e) TooLarge (Ok (made ++ e ∷ []))

-- the entries that were made, with one more
unfoldable pub put_at : TableOptions → Option InternalKey → InternalKey → List Entry → Entry
    → Result (List Entry) InflateFault
put_at options bound key made e =
    guarded (lies bound key e && after_last (last_key made) (internal_key e)) (Table BadIndex)
    (added_at options made e)

-- ---- data blocks

-- the entries that were made, with those of a data block
unfoldable pub filled_at : TableOptions → Option InternalKey → InternalKey → List Entry
    → List Entry → Result (List Entry) InflateFault
filled_at options bound key made [] = Ok made
filled_at options bound key made (e ∷ es) =
    put_at options bound key made e >>= λ more. filled_at options bound key more es

-- the handle that the value of an index entry is, which does not begin before this offset
unfoldable pub handle_behind : ℕ → List ℕ → Result Handle InflateFault
handle_behind from value = do
  handle ← lifted (handle_at BadIndex value)
  guarded (length handle.1 == 0) (Table BadIndex)
      (guarded (nat_le from handle.0.offset) (Table BadIndex) (Ok handle.0))

-- the entries of the block at a handle
unfoldable pub block_there : List ℕ → Handle → Result (List Entry) InflateFault
block_there body handle = do
  contents ← contents_at body handle
  lifted (block_or (block_at contents))

-- the entries of the block that the value of an index entry names
unfoldable pub block_behind : List ℕ → ℕ → List ℕ → Result (List Entry) InflateFault
block_behind body from value = handle_behind from value >>= block_there body

-- the entries that were made, with those of the data blocks of index entries
unfoldable pub data_at : TableOptions → List ℕ → ℕ → Option InternalKey → List Entry → List Entry
    → Result (List Entry) InflateFault
data_at options body from bound made [] = Ok made
data_at options body from bound made (i ∷ index) = do
  group ← block_behind body from i.value
  more ← filled_at options bound (internal_key i) made group
  data_at options body (end_of i.value) (Some (internal_key i)) more index

-- ---- a file

-- the entries of the index block
unfoldable pub index_at : List ℕ → Result (List Entry) InflateFault
index_at bytes = do
  footer ← lifted (footer_at bytes)
  block_there (body_of bytes) footer.index

-- the entries of a table, each of which found room in a plain one
unfoldable pub entries_at : TableOptions → List ℕ → Result (List Entry) InflateFault
entries_at options bytes = do
  index ← index_at bytes
  data_at options (body_of bytes) 0 None [] index

-- the bytes of the plain table of the entries, or nothing where there are none
unfoldable pub finished_at : TableOptions → List Entry → Result (Option (List ℕ)) InflateFault
finished_at options [] = Ok None
finished_at options (e ∷ es) =
    guarded (nat_lt (length (index_block options.restart_interval (groups_by options (e ∷ es))))
    (2 ^ 32)) TooLarge (Ok (Some (table_bytes options (e ∷ es))))

-- the plain table that is made of a file
unfoldable pub inflated_at : TableOptions → List ℕ → Result (Option (List ℕ)) InflateFault
inflated_at options bytes = entries_at options bytes >>= finished_at options
