-- The text that `lsm manifest` prints: each edit's fields in the order of LevelDB's
-- `db/version_edit.cc`, and the rest of the log (this project's rule).
use Rattle.std.specs.Prelude.{ℕ, suc, ◌/◌, ◌%◌, ◌==◌, cond, List, [], ◌∷◌, ◌++◌, codes, decimal}
use Rattle.std.specs.Prelude.{Option, Some, None}
use Rattle.std.specs.List.{flat_map}
use Rattle.lsm_manifest.specs.declared.parts.CompactPointer.{CompactPointer}
use Rattle.lsm_manifest.specs.declared.parts.DeletedFile.{DeletedFile}
use Rattle.lsm_manifest.specs.declared.parts.AddedFile.{AddedFile}
use Rattle.lsm_manifest.specs.declared.file_meta.FileMeta.{FileMeta}
use Rattle.lsm_manifest.specs.EditFit.{Change}
use Rattle.lsm_codec.specs.Keys.{user_part, packed_part}
use Rattle.lsm_text.specs.EntryPrinting.{bytes_word}
use Rattle.lsm_text.specs.Spelling.{spelled}
use Rattle.lsm_text.specs.declared.form.Form.{Form}
use Rattle.lsm_text.specs.declared.form.Form.TheVariants.{Hex}

-- an internal key: `KEY@SEQ+` for a value, `KEY@SEQ-` for a deletion
unfoldable pub key_word_in : Form → List ℕ → List ℕ
key_word_in form key =
    spelled form (user_part key)
    ++ (64 ∷ (decimal (packed_part key / 256)
    ++ cond (packed_part key % 256 == 0) (codes "-") (codes "+")))

-- in hex
unfoldable pub key_word : List ℕ → List ℕ
key_word key = key_word_in Hex key

-- a word with its space, and a number
unfoldable pub number_line : List ℕ → ℕ → List ℕ
number_line word n = word ++ (decimal n ++ (10 ∷ []))

unfoldable pub name_line : List ℕ → List ℕ
name_line name = codes "comparator " ++ (bytes_word name ++ (10 ∷ []))

unfoldable pub comparator_line : Option (List ℕ) → List ℕ
comparator_line None = []
comparator_line (Some name) = name_line name

unfoldable pub field_line : List ℕ → Option ℕ → List ℕ
field_line word None = []
field_line word (Some n) = number_line word n

unfoldable pub pointer_line : CompactPointer → List ℕ
pointer_line p = codes "pointer " ++ (decimal p.level ++ (32 ∷ (key_word p.key ++ (10 ∷ []))))

unfoldable pub deleted_line : DeletedFile → List ℕ
deleted_line d = codes "delete " ++ (decimal d.level ++ (32 ∷ (decimal d.number ++ (10 ∷ []))))

-- a number and a size, and a smallest and a largest key
unfoldable pub file_words : FileMeta → List ℕ
file_words f = decimal f.number
    ++ (32 ∷ (decimal f.size ++ (32 ∷ (key_word f.smallest ++ (32 ∷ key_word f.largest)))))

unfoldable pub added_line : AddedFile → List ℕ
added_line a = codes "add " ++ (decimal a.level ++ (32 ∷ (file_words a.file ++ (10 ∷ []))))

unfoldable pub number_lines : Change → List ℕ
number_lines e =
    field_line (codes "log ") e.log ++ (field_line (codes "prev ") e.prev_log
    ++ (field_line (codes "next ") e.next ++ field_line (codes "last ") e.last))

unfoldable pub list_lines : Change → List ℕ
list_lines e = flat_map pointer_line e.pointers
    ++ (flat_map deleted_line e.deleted ++ flat_map added_line e.added)

unfoldable pub edit_lines : ℕ → Change → List ℕ
edit_lines i e = number_line (codes "edit ") i
    ++ (comparator_line e.comparator ++ (number_lines e ++ list_lines e))

-- edits numbered from i on
unfoldable pub edits_lines : ℕ → List Change → List ℕ
edits_lines i [] = []
edits_lines i (e ∷ es) = edit_lines i e ++ edits_lines (suc i) es

-- the edits from 1, and how many bytes at the log's end hold no whole record
unfoldable pub manifest_text : List Change → ℕ → List ℕ
manifest_text edits rest = edits_lines 1 edits ++ number_line (codes "rest ") rest
