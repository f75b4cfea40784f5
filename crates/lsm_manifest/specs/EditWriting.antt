-- The bytes that are written for an edit: its fields in the order in which LevelDB's
-- `db/version_edit.cc` writes them.
use Rattle.std.specs.Prelude.{◌≡◌, ℕ, ◌^◌, ◌<◌, ◌≤◌, List, [], ◌∷◌, ◌++◌, length, map, Option, Some}
use Rattle.std.specs.Prelude.{None}
use Rattle.std.specs.Ordering.{nat_cmp}
use Rattle.std.specs.declared.cmp.Ordering.{Ordering}
use Rattle.std.specs.List.Sorted.{IsSorted}
use Rattle.lsm_codec.specs.Keys.{then_by}
use Rattle.lsm_codec.specs.Varint.{varint32, varint64}
use Rattle.lsm_manifest.specs.declared.parts.CompactPointer.{CompactPointer}
use Rattle.lsm_manifest.specs.declared.parts.DeletedFile.{DeletedFile}
use Rattle.lsm_manifest.specs.declared.parts.AddedFile.{AddedFile}
use Rattle.lsm_manifest.specs.declared.edit.Edit.{Edit}
use Rattle.lsm_manifest.specs.Edit.{Field, Comparator, Log, Prev, Next, Last, Pointer, Deleted}
use Rattle.lsm_manifest.specs.Edit.{Added, AreFields, tag_of}
use Rattle.lsm_manifest.specs.EditFit.{FitsKey}
use Rattle.lsm_manifest.specs.EditView.{added_parts}

unfoldable pub bytes_text : List ℕ → List ℕ
bytes_text x = varint32 (length x) ++ x

unfoldable pub body_text : Field → List ℕ
body_text (Comparator x) = bytes_text x
body_text (Log x) = varint64 x
body_text (Prev x) = varint64 x
body_text (Next x) = varint64 x
body_text (Last x) = varint64 x
body_text (Pointer x) = varint32 x.0 ++ bytes_text x.1
body_text (Deleted x) = varint32 x.0 ++ varint64 x.1
body_text (Added x) = varint32 x.0
    ++ (varint64 x.1.0 ++ (varint64 x.1.1.0 ++ (bytes_text x.1.1.1.0 ++ bytes_text x.1.1.1.1)))

unfoldable pub field_text : Field → List ℕ
field_text f = varint32 (tag_of f) ++ body_text f

unfoldable pub fields_text : List Field → List ℕ
fields_text [] = []
fields_text (f ∷ fs) = field_text f ++ fields_text fs

-- what a writer asks of a field
abbrev pub FitsField : Field → Type 0
FitsField (Comparator x) = length x < 2 ^ 32
FitsField (Log x) = Unit {0}
FitsField (Prev x) = Unit {0}
FitsField (Next x) = Unit {0}
FitsField (Last x) = Unit {0}
FitsField (Pointer x) = (x.0 ≤ 6) × FitsKey x.1
FitsField (Deleted x) = x.0 ≤ 6
FitsField (Added x) = (x.0 ≤ 6) × FitsKey x.1.1.1.0 × FitsKey x.1.1.1.1

-- the numbers of a field fit 64 bits
abbrev pub FitNumbers : Field → Type 0
FitNumbers (Comparator x) = Unit {0}
FitNumbers (Log x) = x < 2 ^ 64
FitNumbers (Prev x) = x < 2 ^ 64
FitNumbers (Next x) = x < 2 ^ 64
FitNumbers (Last x) = x < 2 ^ 64
FitNumbers (Pointer x) = Unit {0}
FitNumbers (Deleted x) = x.1 < 2 ^ 64
FitNumbers (Added x) = (x.1.0 < 2 ^ 64) × (x.1.1.0 < 2 ^ 64)

-- a field that the edit may lack
abbrev pub optional : {A : Type 0} → (A → Field) → Option A → List Field
optional make None = []
optional make (Some x) = make x ∷ []

abbrev pub pointer_field : CompactPointer → Field
pointer_field p = Pointer (p.level, p.key)

abbrev pub deleted_field : DeletedFile → Field
deleted_field d = Deleted (d.level, d.number)

abbrev pub added_field : AddedFile → Field
added_field a = Added (added_parts a)

-- the fields of an edit, in the order of the format's table
abbrev pub fields_in : Edit → List Field
fields_in e =
    optional Comparator e.comparator
    ++ (optional Log e.log ++ (optional Prev e.prev_log
    ++ (optional Next e.next ++ (optional Last e.last
    ++ (map pointer_field e.pointers
    ++ (map deleted_field e.deleted ++ map added_field e.added))))))

unfoldable pub edit_text : Edit → List ℕ
edit_text e = fields_text (fields_in e)

-- Deletions stand by level, then number.
abbrev pub deleted_cmp : DeletedFile → DeletedFile → Ordering
deleted_cmp d f = then_by (nat_cmp d.level f.level) (nat_cmp d.number f.number)

abbrev pub AreInOrder : List DeletedFile → Type 0
AreInOrder ds = IsSorted deleted_cmp ds

-- These fields were added, and what was added spells them.
pub record AddsFields (old : List ℕ) (fields : List Field) (new : List ℕ) : Type 0 where
  pub bytes : new ≡ old ++ fields_text fields
  pub spelled : AreFields fields (fields_text fields)
