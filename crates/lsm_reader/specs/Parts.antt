-- What is kept of an image (this project's rule).
use Rattle.std.specs.Prelude.{◌≡◌, ℕ, List, length, take, drop, Ok}
use Rattle.lsm_codec.specs.Entries.{Entry}
use Rattle.lsm_table.specs.declared.handle.Handle.{Handle}
use Rattle.lsm_reader.specs.Blocks.{stored_block}

-- a block of an image: its place, and the entries that were read there
pub record BlockOf : Type 0 where
  pub image : List ℕ
  pub handle : Handle
  pub entries : List Entry

-- the block that stands at that place
abbrev pub IsBlockOf : BlockOf → Type 0
IsBlockOf p = stored_block p.image p.handle ≡ Ok p.entries

-- bytes that were read of an image, from a place on
pub record PartOf : Type 0 where
  pub image : List ℕ
  pub offset : ℕ
  pub bytes : List ℕ

-- those that stand there
abbrev pub IsPartOf : PartOf → Type 0
IsPartOf p = p.bytes ≡ take (length p.bytes) (drop p.offset p.image)
