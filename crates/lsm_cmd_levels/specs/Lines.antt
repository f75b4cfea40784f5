-- What is printed of a shape: this project's rule. Keys stand in a form: hex, or text.
use Rattle.std.specs.Prelude.{ℕ, zero, suc, ◌/◌, ◌%◌, List, [], ◌∷◌, ◌++◌, length, codes, decimal}
use Rattle.std.specs.Prelude.{Option, Some, None, cond, nat_le}
use Rattle.std.specs.List.{flat_map}
use Rattle.lsm_manifest.specs.declared.file_meta.FileMeta.{FileMeta}
use Rattle.lsm_manifest.specs.declared.shape.Shape.{Shape}
use Rattle.lsm_text.specs.ManifestPrinting.{key_word_in}
use Rattle.lsm_text.specs.declared.form.Form.{Form}
use Rattle.lsm_cmd_levels.specs.Dues.{is_taken}
use Rattle.lsm_cmd_levels.specs.Sums.{bytes_of, files_at, hundredths, weight}
use Rattle.lsm_cmd_levels.specs.Totals.{mean, table_bytes, table_count}
use Rattle.lsm_cmd_levels.specs.declared.due.Due.{Due}
use Rattle.lsm_cmd_levels.specs.declared.folder_sums.FolderSums.{FolderSums}
use Rattle.lsm_cmd_levels.specs.declared.totals.Totals.{Totals}

-- the texts of the first n levels
unfoldable pub level_texts : (ℕ → List ℕ) → ℕ → List ℕ
level_texts text zero = []
level_texts text (suc n) = level_texts text n ++ text n

-- a word and a number
unfoldable pub labelled : List ℕ → ℕ → List ℕ
labelled word n = word ++ decimal n

-- hundredths with two decimals: `1.25`
unfoldable pub two_decimals : ℕ → List ℕ
two_decimals n = decimal (n / 100) ++ (46 ∷ (decimal (n % 100 / 10) ++ decimal (n % 10)))

-- ` score S`; level 6 has none
abbrev pub score_words : ℕ → List FileMeta → List ℕ
score_words level fs = cond (nat_le level 5) (codes " score "
    ++ two_decimals (hundredths (weight level fs))) []

-- `level L files F bytes B score S`
unfoldable pub level_words : ℕ → List FileMeta → List ℕ
level_words level fs =
    labelled (codes "level ") level
    ++ (labelled (codes " files ") (length fs)
    ++ (labelled (codes " bytes ") (bytes_of fs) ++ score_words level fs))

-- ---- files

-- a number and a space
unfoldable pub number_word : ℕ → List ℕ
number_word n = decimal n ++ (32 ∷ [])

-- `LEVEL NUMBER SIZE SMALLEST LARGEST`, the last two as `KEY@SEQ+` or `KEY@SEQ-`
unfoldable pub file_line : Form → ℕ → FileMeta → List ℕ
file_line form level f =
    number_word level ++ (number_word f.number
    ++ (number_word f.size ++ (key_word_in form f.smallest
    ++ (32 ∷ (key_word_in form f.largest ++ (10 ∷ []))))))

-- the line of a level
unfoldable pub level_line : ℕ → List FileMeta → List ℕ
level_line level fs = level_words level fs ++ (10 ∷ [])

-- that, and a line for each of its files
unfoldable pub level_lines : Form → ℕ → List FileMeta → List ℕ
level_lines form level fs = level_line level fs ++ flat_map (file_line form level) fs

-- ---- sums

-- ` least L mean M`: sizes, where there is a table
unfoldable pub spread_words : Shape → Option ℕ → List ℕ
spread_words s None = []
spread_words s (Some n) = labelled (codes " least ") n ++ labelled (codes " mean ") (mean s)

-- `tables N bytes B least L mean M`, of the tables that the manifest names; or `tables 0 bytes 0`
unfoldable pub tables_line : Shape → Option ℕ → List ℕ
tables_line s least =
    labelled (codes "tables ") (table_count s)
    ++ (labelled (codes " bytes ") (table_bytes s) ++ (spread_words s least ++ (10 ∷ [])))

-- `folder tables T manifests M others O bytes B`: the folder's files, and the bytes of all
unfoldable pub folder_line : FolderSums → List ℕ
folder_line sums =
    labelled (codes "folder tables ") sums.tables
    ++ (labelled (codes " manifests ") sums.manifests
    ++ (labelled (codes " others ") sums.others
    ++ (labelled (codes " bytes ") sums.bytes ++ (10 ∷ []))))

-- ---- what is due

-- a space and the number of a file that is taken
unfoldable pub taken_word : Option Due → ℕ → FileMeta → List ℕ
taken_word due level f = cond (is_taken due level f) (labelled (codes " ") f.number) []

-- the numbers of the files that are taken, level by level
unfoldable pub taken_words : Shape → Option Due → List ℕ
taken_words s due = level_texts (λ n. flat_map (taken_word due n) (files_at s n)) 7

-- `due none` or `due level L`
unfoldable pub due_words : Option Due → List ℕ
due_words None = codes "due none"
due_words (Some d) = labelled (codes "due level ") d.level

-- ` inputs N N ..`, where a level is due
unfoldable pub input_words : Shape → Option Due → List ℕ
input_words s None = []
input_words s (Some d) = codes " inputs" ++ taken_words s (Some d)

-- `due none` or `due level L inputs N N ..`
unfoldable pub due_line : Shape → Option Due → List ℕ
due_line s due = due_words due ++ (input_words s due ++ (10 ∷ []))

-- `last S rest R`: the last sequence, and how many bytes at the manifest's end hold no whole record
unfoldable pub last_words : Shape → ℕ → List ℕ
last_words s rest = labelled (codes "last ") s.last ++ labelled (codes " rest ") rest

-- the last four lines
unfoldable pub end_lines : Shape → ℕ → Option Due → Totals → List ℕ
end_lines s rest due totals = tables_line s totals.least
    ++ (folder_line totals.folder ++ (last_words s rest ++ (10 ∷ due_line s due)))

-- ---- the texts

unfoldable pub levels_text : Shape → ℕ → Option Due → Totals → List ℕ
levels_text s rest due totals = level_texts (λ n. level_line n (files_at s n)) 7
    ++ end_lines s rest due totals

unfoldable pub files_text : Form → Shape → ℕ → Option Due → Totals → List ℕ
files_text form s rest due totals = level_texts (λ n. level_lines form n (files_at s n)) 7
    ++ end_lines s rest due totals
