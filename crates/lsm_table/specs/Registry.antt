-- Tables, as contracts see them (this project's rule).
use Rattle.std.specs.Prelude.{ℕ, List, length}
use Rattle.std.specs.List.{sum_by}

-- a record of the registry at its index, with the image for which its receipt stands
pub record Table : Type 0 where
  pub index : ℕ
  -- the number of the table's file
  pub number : ℕ
  -- the bytes of its first and of its last internal key
  pub smallest : List ℕ
  pub largest : List ℕ
  pub image : List ℕ

-- the bytes for which a record stands
abbrev pub image_of : Table → List ℕ
image_of t = t.image

-- the size of its file in bytes
abbrev pub size_of : Table → ℕ
size_of t = length (image_of t)

-- the sizes of the files of tables, together
abbrev pub bytes_of : List Table → ℕ
bytes_of ts = sum_by size_of ts
