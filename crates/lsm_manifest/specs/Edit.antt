-- What a version edit is: fields, each a tag and its parts, in any order (LevelDB's
-- `db/version_edit.cc`), and what they come to.
use Rattle.std.specs.Prelude.{Option, Some, None, ◌≡◌, ℕ, ◌≤◌, true, List, [], ◌∷◌, ◌++◌, length}
use Rattle.std.specs.List.{filter_map}
use Rattle.lsm_codec.specs.Keys.{is_internal}
use Rattle.lsm_codec.specs.Varint.{IsVarint32, IsVarint64}
use Rattle.lsm_manifest.specs.Last.{last_by}
use Rattle.lsm_manifest.specs.declared.parts.CompactPointer.{CompactPointer}
use Rattle.lsm_manifest.specs.declared.parts.DeletedFile.{DeletedFile}
use Rattle.lsm_manifest.specs.declared.parts.AddedFile.{AddedFile}
use Rattle.lsm_manifest.specs.declared.edit.Edit.{Edit}

-- A field. A level, a number, a size and two keys are right-nested pairs, in the order of the
-- bytes.
pub data Field : Type 0 where
  Comparator : List ℕ → Field
  Log : ℕ → Field
  Prev : ℕ → Field
  Next : ℕ → Field
  Last : ℕ → Field
  Pointer : ℕ × List ℕ → Field
  Deleted : ℕ × ℕ → Field
  Added : ℕ × (ℕ × (ℕ × (List ℕ × List ℕ))) → Field

-- two parts, one after the other
pub record Both {A B : Type 0} (T : A → List ℕ → Type 0) (U : B → List ℕ
    → Type 0) (x : A × B) (own : List ℕ) : Type 0 where
  pub first : List ℕ
  pub second : List ℕ
  pub own_is : own ≡ first ++ second
  pub first_is : T x.0 first
  pub second_is : U x.1 second

abbrev pub NumberText : ℕ → List ℕ → Type 0
NumberText n own = IsVarint64 own n

-- a level, 0 to 6
pub record LevelText (level : ℕ) (own : List ℕ) : Type 0 where
  pub is : IsVarint32 own level
  pub fits : level ≤ 6

-- a length and so many bytes
pub record BytesText (bytes own : List ℕ) : Type 0 where
  pub size_text : List ℕ
  pub size_is : IsVarint32 size_text (length bytes)
  pub own_is : own ≡ size_text ++ bytes

pub record KeyText (key own : List ℕ) : Type 0 where
  pub is : BytesText key own
  pub internal : is_internal key ≡ true

abbrev pub tag_of : Field → ℕ
tag_of (Comparator x) = 1
tag_of (Log x) = 2
tag_of (Prev x) = 9
tag_of (Next x) = 3
tag_of (Last x) = 4
tag_of (Pointer x) = 5
tag_of (Deleted x) = 6
tag_of (Added x) = 7

abbrev pub BodyText : Field → List ℕ → Type 0
BodyText (Comparator x) own = BytesText x own
BodyText (Log x) own = NumberText x own
BodyText (Prev x) own = NumberText x own
BodyText (Next x) own = NumberText x own
BodyText (Last x) own = NumberText x own
BodyText (Pointer x) own = Both LevelText KeyText x own
BodyText (Deleted x) own = Both LevelText NumberText x own
BodyText (Added x) own = Both LevelText (Both NumberText (Both NumberText (Both KeyText KeyText))) x
    own

pub record FieldText (field : Field) (own : List ℕ) : Type 0 where
  pub tag_text : List ℕ
  pub body : List ℕ
  pub own_is : own ≡ tag_text ++ body
  pub tag_is : IsVarint32 tag_text (tag_of field)
  pub body_is : BodyText field body

-- The text is these fields, one after the other.
abbrev pub AreFields : List Field → List ℕ → Type 0
AreFields [] text = text ≡ []
AreFields (f ∷ fs) text = (own later : List ℕ) × (text ≡ own ++ later) × FieldText f own
    × AreFields fs later

-- ---- what the fields come to

abbrev pub comparator_of : Field → Option (List ℕ)
comparator_of (Comparator x) = Some x
comparator_of _ = None

abbrev pub log_of : Field → Option ℕ
log_of (Log x) = Some x
log_of _ = None

abbrev pub prev_of : Field → Option ℕ
prev_of (Prev x) = Some x
prev_of _ = None

abbrev pub next_of : Field → Option ℕ
next_of (Next x) = Some x
next_of _ = None

abbrev pub last_of : Field → Option ℕ
last_of (Last x) = Some x
last_of _ = None

abbrev pub pointer_of : Field → Option CompactPointer
pointer_of (Pointer x) = Some (record { level = x.0; key = x.1 })
pointer_of _ = None

abbrev pub deleted_of : Field → Option DeletedFile
deleted_of (Deleted x) = Some (record { level = x.0; number = x.1 })
deleted_of _ = None

abbrev pub added_of : Field → Option AddedFile
added_of (Added x) = Some (record {
  level = x.0;
  file = record {
    number = x.1.0;
    size = x.1.1.0;
    smallest = x.1.1.1.0;
    largest = x.1.1.1.1;
  };
})
added_of _ = None

-- all values of a kind, in order
unfoldable pub all_values : {A : Type 0} → (Field → Option A) → List Field → List A
all_values pick fs = filter_map pick fs

abbrev pub edit_of : List Field → Edit
edit_of fs = record {
  comparator = last_by comparator_of fs;
  log = last_by log_of fs;
  prev_log = last_by prev_of fs;
  next = last_by next_of fs;
  last = last_by last_of fs;
  pointers = all_values pointer_of fs;
  deleted = all_values deleted_of fs;
  added = all_values added_of fs;
}

-- The bytes are a row of fields; the edit has the last value of the comparator and of each number
-- field, and all pointers, deletions and additions.
pub record IsEdit (bytes : List ℕ) (edit : Edit) : Type 0 where
  pub fields : List Field
  pub spelled : AreFields fields bytes
  pub edit_is : edit ≡ edit_of fields
