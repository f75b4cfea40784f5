-- A block as it stands in a table's file that may be compressed (LevelDB's `doc/table_format.md`:
-- the stored bytes, a type byte, and the masked CRC-32C of both).
use Rattle.std.specs.Prelude.{◌≡◌, ℕ, zero, suc, ◌+◌, ◌==◌, nat_le, Bool, false, List, [], ◌∷◌}
use Rattle.std.specs.Prelude.{if◌then◌else◌, ◌++◌, length, take, drop, Result, Ok, Err}
use Rattle.lsm_snappy.specs.Snappy.{IsSnappy}
use Rattle.lsm_snappy.specs.Reading.{plain_at}
use Rattle.lsm_snappy.specs.declared.fault.SnappyFault.{SnappyFault}
use Rattle.lsm_snappy.specs.declared.fault.SnappyFault.TheVariants as snappy
use Rattle.lsm_table.specs.declared.table_fault.TableFault.{TableFault}
use Rattle.lsm_table.specs.declared.table_fault.TableFault.TheVariants.{OutOfMemory, BadHandle}
use Rattle.lsm_table.specs.declared.table_fault.TableFault.TheVariants.{Compressed}
use Rattle.lsm_table.specs.declared.handle.Handle.{Handle}
use Rattle.lsm_table.specs.StoredBlock.{seal, unsealed}
use Rattle.lsm_inflate.specs.declared.inflate_fault.InflateFault.{InflateFault}
use Rattle.lsm_inflate.specs.declared.inflate_fault.InflateFault.TheVariants.{Table, BadSnappy}
use Rattle.lsm_inflate.specs.Reading.{guarded}

-- What stored bytes of this type stand for: of type 0 themselves, of type 1 what raw Snappy says.
abbrev pub StandFor : ℕ → List ℕ → List ℕ → Type 0
StandFor zero stored contents = contents ≡ stored
StandFor (suc zero) stored contents = IsSnappy stored contents
StandFor (suc (suc kind)) stored contents = ⊥

-- The part before the footer holds, at that handle, stored bytes that stand for these contents,
-- with their type byte and the checksum of both.
pub record HoldsPacked (body : List ℕ) (handle : Handle) (contents : List ℕ) : Type 0 where
  pub before : List ℕ
  pub stored : List ℕ
  pub kind : ℕ
  pub after : List ℕ
  pub stand_for : StandFor kind stored contents
  pub offset_is : length before ≡ handle.offset
  pub size_is : length stored ≡ handle.size
  pub body_is : body ≡ before ++ (stored ++ ((kind ∷ seal (stored ++ kind ∷ [])) ++ after))

-- ---- reading

abbrev pub snappy_or : ℕ → Result (List ℕ) SnappyFault → Result (List ℕ) InflateFault
snappy_or offset (Ok contents) = Ok contents
snappy_or offset (Err snappy.OutOfMemory) = Err (Table OutOfMemory)
snappy_or offset (Err (snappy.BadSnappy cause)) = Err (BadSnappy offset cause)

-- whether only its type keeps a block from being plain, and that is Snappy's
abbrev pub is_snappy : TableFault → Bool
is_snappy (Compressed kind) = kind == 1
is_snappy _ = false

abbrev pub expanded : ℕ → List ℕ → Result (List ℕ) TableFault → Result (List ℕ) InflateFault
expanded offset stored (Ok contents) = Ok contents
expanded offset stored (Err fault) =
    if is_snappy fault then snappy_or offset (plain_at stored) else Err (Table fault)

-- the contents of a stored block that begins at the offset and whose stored bytes have the size
unfoldable pub packed_at : ℕ → ℕ → List ℕ → Result (List ℕ) InflateFault
packed_at offset size text = expanded offset (take size text) (unsealed offset size text)

-- the contents of the block at that handle
unfoldable pub contents_at : List ℕ → Handle → Result (List ℕ) InflateFault
contents_at body handle =
    guarded (nat_le (handle.offset + handle.size + 5) (length body)) (Table BadHandle)
    (packed_at handle.offset handle.size (take (handle.size + 5) (drop handle.offset body)))
