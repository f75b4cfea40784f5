-- A block as it stands in a table's file (LevelDB's `doc/table_format.md`: the contents, a type
-- byte, and the masked CRC-32C of both).
use Rattle.std.specs.Prelude.{◌≡◌, ℕ, ◌+◌, ◌==◌, nat_le, if◌then◌else◌, List, [], ◌∷◌, ◌++◌, length}
use Rattle.std.specs.Prelude.{take, drop, slice_index, Result, Ok}
use Rattle.std.specs.Str.{bytes_eq}
use Rattle.std.specs.Int.{w32, to_le_bytes}
use Rattle.lsm_codec.specs.Crc.{crc_of}
use Rattle.lsm_codec.specs.Mask.{masked}
use Rattle.lsm_table.specs.declared.table_fault.TableFault.{TableFault}
use Rattle.lsm_table.specs.declared.table_fault.TableFault.TheVariants.{BadHandle, BadChecksum}
use Rattle.lsm_table.specs.declared.table_fault.TableFault.TheVariants.{Compressed, BadBlockType}
use Rattle.lsm_table.specs.declared.handle.Handle.{Handle}
use Rattle.lsm_table.specs.Reading.{guarded}

-- the checksum of a text as it is stored, in four bytes
unfoldable pub seal : List ℕ → List ℕ
seal text = to_le_bytes w32 (masked (crc_of text))

-- what follows the contents of a block that is not compressed: type 0, and the checksum of the
-- contents and that type
abbrev pub trailer : List ℕ → List ℕ
trailer contents = 0 ∷ seal (contents ++ 0 ∷ [])

-- a block and its trailer
abbrev pub stored : List ℕ → List ℕ
stored contents = contents ++ trailer contents

-- The part before the footer holds these contents at that handle, with their trailer.
pub record Holds (body : List ℕ) (handle : Handle) (contents : List ℕ) : Type 0 where
  pub before : List ℕ
  pub after : List ℕ
  pub offset_is : length before ≡ handle.offset
  pub size_is : length contents ≡ handle.size
  pub body_is : body ≡ before ++ (contents ++ (trailer contents ++ after))

-- ---- reading

abbrev pub kind_fault : ℕ → TableFault
kind_fault kind = if nat_le kind 2 then Compressed kind else BadBlockType kind

-- the contents of a stored block that begins at the offset and whose contents have the size
unfoldable pub unsealed : ℕ → ℕ → List ℕ → Result (List ℕ) TableFault
unsealed offset size text =
    guarded (bytes_eq (drop (size + 1) text) (seal (take (size + 1) text))) (BadChecksum offset)
    (guarded (slice_index text size
    == 0) (kind_fault (slice_index text size)) (Ok (take size text)))

-- the contents of the block at that handle
unfoldable pub contents_at : List ℕ → Handle → Result (List ℕ) TableFault
contents_at body handle =
    guarded (nat_le (handle.offset + handle.size + 5) (length body)) BadHandle
    (unsealed handle.offset handle.size (take (handle.size + 5) (drop handle.offset body)))
