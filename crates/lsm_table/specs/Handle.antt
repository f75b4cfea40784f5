-- The handle of a block in a table's file (LevelDB's `doc/table_format.md`, "BlockHandle").
use Rattle.std.specs.Prelude.{◌≡◌, ℕ, List, ◌++◌, Result, Ok}
use Rattle.lsm_codec.specs.Varint.{IsVarint64, varint64, varint64_at}
use Rattle.lsm_table.specs.declared.table_fault.TableFault.{TableFault}
use Rattle.lsm_table.specs.declared.handle.Handle.{Handle}
use Rattle.lsm_table.specs.Reading.{◌>>=◌, number_or}

-- The bytes spell the handle: varint64 offset, varint64 size. The size is that of the contents, the
-- trailer not counted.
pub record IsHandle (bytes : List ℕ) (handle : Handle) : Type 0 where
  pub offset_text : List ℕ
  pub size_text : List ℕ
  pub offset_is : IsVarint64 offset_text handle.offset
  pub size_is : IsVarint64 size_text handle.size
  pub bytes_are : bytes ≡ offset_text ++ size_text

-- the shortest spelling
abbrev pub handle_text : Handle → List ℕ
handle_text handle = varint64 handle.offset ++ varint64 handle.size

-- the handle at the front, and what follows it
unfoldable pub handle_at : TableFault → List ℕ → Result (Handle × List ℕ) TableFault
handle_at fault bytes = do
  offset ← number_or fault (varint64_at bytes)
  size ← number_or fault (varint64_at offset.1)
  Ok (record { offset = offset.0; size = size.0 }, size.1)
