-- What a check reads of the files of a shape, and how it judges one of them (this project's rule;
-- the shape is that of the manifest).
use Rattle.std.specs.Prelude.{◌≡◌, ℕ, ◌+◌, ◌≤◌, min, max, Bool, false, ◌&&◌, cond, List, [], ◌∷◌}
use Rattle.std.specs.Prelude.{Option, Some, None, length, nat_le}
use Rattle.std.specs.Ordering.{is_eq}
use Rattle.lsm_codec.specs.Lists.{Has}
use Rattle.lsm_codec.specs.Keys.{InternalKey, IsKey, key_cmp}
use Rattle.lsm_codec.specs.Entries.{Entry, internal_key}
use Rattle.lsm_table.specs.Registry.{Table}
use Rattle.lsm_table.specs.Table.{IsTable}
use Rattle.lsm_table.specs.HeldTable.{entries_in}
use Rattle.lsm_manifest.specs.FileOrder.{TableFile}
use Rattle.lsm_model.specs.Ranges.{Range}
use Rattle.lsm_model.specs.Checking.{IsRangeOf}
use Rattle.lsm_verify.specs.declared.sequences.Sequences.{Sequences}

-- The entries begin and end at these internal keys, and none is above the last sequence.
pub record IsSpanned (last : ℕ) (smallest largest : List ℕ) (entries : List Entry) : Type 0 where
  pub range : Range
  pub first : IsKey smallest range.smallest
  pub end : IsKey largest range.largest
  pub spans : IsRangeOf entries range
  pub reached : (e : Entry) → Has entries e → e.seq ≤ last

-- The image is the file's: a table, of the file's size, with the file's first and last key.
pub record IsImageOf (last : ℕ) (file : TableFile) (image : List ℕ) : Type 0 where
  pub table : IsTable image (entries_in image)
  pub size : length image ≡ file.size
  pub spanned : IsSpanned last file.smallest file.largest (entries_in image)

-- the record of the registry is the file's
pub record IsFileOf (last : ℕ) (file : TableFile) (t : Table) : Type 0 where
  pub number : t.number ≡ file.number
  pub smallest : t.smallest ≡ file.smallest
  pub largest : t.largest ≡ file.largest
  pub image : IsImageOf last file t.image

-- ---- how the code judges the entries of a table

-- the first entry has this key
abbrev pub starts_with : InternalKey → List Entry → Bool
starts_with key [] = false
starts_with key (e ∷ es) = is_eq (key_cmp (internal_key e) key)

-- the entry has this key, if there is one
abbrev pub ends_at : InternalKey → Option InternalKey → Bool
ends_at key None = false
ends_at key (Some own) = is_eq (key_cmp own key)

-- no entry is above the last sequence, and the last one has this key; `before` is the key of the
-- entry before, if there is one
abbrev pub ends_with : ℕ → InternalKey → Option InternalKey → List Entry → Bool
ends_with last key before [] = ends_at key before
ends_with last key before (e ∷ es) =
    nat_le e.seq last && ends_with last key (Some (internal_key e)) es

-- the sequences of one entry
abbrev pub of_one : ℕ → Sequences
of_one seq = record { least = seq; greatest = seq; count = 1 }

-- those with one more
abbrev pub spread : Sequences → ℕ → Sequences
spread s seq = record {
  least = min s.least seq;
  greatest = max s.greatest seq;
  count = s.count
      + 1;
}

-- The same walk with the sequences of the entries before: none where the test fails.
abbrev pub walked : ℕ → InternalKey → Option InternalKey → Sequences → List Entry → Option Sequences
walked last key before s [] = cond (ends_at key before) (Some s) None
walked last key before s (e ∷ es) =
    cond (nat_le e.seq last) (walked last key (Some (internal_key e)) (spread s e.seq) es) None

-- and from the first entry on, which has to have the first key
abbrev pub walked_all : ℕ → InternalKey → InternalKey → List Entry → Option Sequences
walked_all last first end [] = None
walked_all last first end (e ∷ es) =
    cond (is_eq (key_cmp (internal_key e) first)
    && nat_le e.seq last) (walked last end (Some (internal_key e)) (of_one e.seq) es) None
