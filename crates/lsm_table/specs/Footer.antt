-- The last 48 bytes of a table's file (LevelDB's `doc/table_format.md`, "footer").
use Rattle.std.specs.Prelude.{◌≡◌, ℕ, ◌+◌, ◌-◌, nat_le, List, [], ◌∷◌, ◌++◌, length, take, drop}
use Rattle.std.specs.Prelude.{replicate, Result, Ok}
use Rattle.std.specs.Str.{bytes_eq}
use Rattle.lsm_table.specs.declared.table_fault.TableFault.{TableFault}
use Rattle.lsm_table.specs.declared.table_fault.TableFault.TheVariants.{ShortFile, BadMagic}
use Rattle.lsm_table.specs.declared.table_fault.TableFault.TheVariants.{BadHandle}
use Rattle.lsm_table.specs.declared.footer.Footer.{Footer}
use Rattle.lsm_table.specs.Reading.{◌>>=◌, guarded}
use Rattle.lsm_table.specs.Handle.{IsHandle, handle_text, handle_at}

-- the fixed64 0xdb4775248b80fb57
abbrev pub magic : List ℕ
magic = 0x57 ∷ 0xfb ∷ 0x80 ∷ 0x8b ∷ 0x24 ∷ 0x75 ∷ 0x47 ∷ 0xdb ∷ []

-- the handles of the metaindex and of the index, anything up to 40 bytes, and the magic number
pub record IsFooter (bytes : List ℕ) (footer : Footer) : Type 0 where
  pub metaindex_text : List ℕ
  pub index_text : List ℕ
  pub padding : List ℕ
  pub metaindex_is : IsHandle metaindex_text footer.metaindex
  pub index_is : IsHandle index_text footer.index
  pub length_is : length metaindex_text + length index_text + length padding ≡ 40
  pub bytes_are : bytes ≡ metaindex_text ++ (index_text ++ (padding ++ magic))

-- ---- reading

-- the two handles
unfoldable pub places_at : List ℕ → Result Footer TableFault
places_at bytes = do
  metaindex ← handle_at BadHandle bytes
  index ← handle_at BadHandle metaindex.1
  Ok (record { metaindex = metaindex.0; index = index.0 })

abbrev pub footer_of : List ℕ → List ℕ
footer_of bytes = drop (length bytes - 48) bytes

abbrev pub body_of : List ℕ → List ℕ
body_of bytes = take (length bytes - 48) bytes

-- the footer of a file
unfoldable pub footer_at : List ℕ → Result Footer TableFault
footer_at bytes =
    guarded (nat_le 48 (length bytes)) ShortFile
    (guarded (bytes_eq (drop 40 (footer_of bytes)) magic) BadMagic
    (places_at (take 40 (footer_of bytes))))

-- ---- writing

-- both handles, then zeros up to 40 bytes
abbrev pub padded : List ℕ → List ℕ
padded places = places ++ replicate (40 - length places) 0

abbrev pub footer_text : Footer → List ℕ
footer_text footer = padded (handle_text footer.metaindex ++ handle_text footer.index) ++ magic
