-- What is printed of a version and of what it answers: this project's rule. Keys and values stand
-- in a form: hex, or text.
use Rattle.std.specs.Prelude.{ℕ, zero, suc, List, [], ◌∷◌, ◌++◌, length, codes, decimal, Option}
use Rattle.std.specs.Prelude.{Some, None}
use Rattle.std.specs.List.{flat_map}
use Rattle.lsm_table.specs.Registry.{Table, bytes_of, size_of}
use Rattle.lsm_version.specs.Versions.{Levels, level_in}
-- the entries of all files
pub use Rattle.lsm_verify.specs.Counts.{count_of}
use Rattle.lsm_text.specs.ManifestPrinting.{key_word_in, number_line}
use Rattle.lsm_text.specs.Spelling.{spelled}
use Rattle.lsm_text.specs.declared.form.Form.{Form}
use Rattle.lsm_requests.specs.declared.get_output.GetOutput.{GetOutput}
use Rattle.lsm_requests.specs.declared.get_output.GetOutput.TheVariants.{Line, Raw, Nothing}
use Rattle.lsm_directory.specs.Logs.{AppendsLogs, log_line}
use Rattle.lsm_directory.specs.declared.folder.beside.Beside.{Beside}
use Rattle.lsm_directory.specs.declared.folder.named_manifest.NamedManifest.{NamedManifest}

-- the texts of the first n levels
unfoldable pub level_texts : (ℕ → List ℕ) → ℕ → List ℕ
level_texts text zero = []
level_texts text (suc n) = level_texts text n ++ text n

-- ---- `list`

-- a number and a space
unfoldable pub number_word : ℕ → List ℕ
number_word n = decimal n ++ (32 ∷ [])

-- `LEVEL NUMBER SIZE SMALLEST LARGEST`, the last two as `KEY@SEQ+` or `KEY@SEQ-`
unfoldable pub file_line : Form → ℕ → Table → List ℕ
file_line form level t =
    number_word level ++ (number_word t.number
    ++ (number_word (size_of t) ++ (key_word_in form t.smallest
    ++ (32 ∷ (key_word_in form t.largest ++ (10 ∷ []))))))

unfoldable pub file_lines : Form → ℕ → List Table → List ℕ
file_lines form level ts = flat_map (file_line form level) ts

-- the files of the levels 0 to 6, each level in its order, and `end`
unfoldable pub list_text : Form → Levels → List ℕ
list_text form v = level_texts (λ n. file_lines form n (level_in v.tables n)) 7 ++ codes "end\n"

-- ---- `get`

-- `value V` or `absent`
abbrev pub answer_text : Form → Option (List ℕ) → List ℕ
answer_text form None = codes "absent\n"
answer_text form (Some value) = codes "value " ++ (spelled form value ++ (10 ∷ []))

-- what is written of an answer: a line; the bytes of the value; or nothing. None where it is that
-- of an absent key, and no line is asked for.
abbrev pub shown_answer : Form → GetOutput → Option (List ℕ) → Option (List ℕ)
shown_answer form Line answer = Some (answer_text form answer)
shown_answer form Raw answer = answer
shown_answer form Nothing None = None
shown_answer form Nothing (Some value) = Some []

-- ---- `check`

-- a word and a number
unfoldable pub labelled : List ℕ → ℕ → List ℕ
labelled word n = word ++ decimal n

-- `level L files F bytes B entries E`
abbrev pub counts_line : ℕ → ℕ → ℕ → ℕ → List ℕ
counts_line level files bytes entries =
    labelled (codes "level ") level
    ++ (labelled (codes " files ") files
    ++ (labelled (codes " bytes ") bytes
    ++ (labelled (codes " entries ") entries ++ (10 ∷ []))))

unfoldable pub level_line : ℕ → List Table → List ℕ
level_line level ts = counts_line level (length ts) (bytes_of ts) (count_of ts)

-- a line for each of the levels 0 to 6, the last sequence, and how many bytes at the manifest's end
-- hold no whole record
unfoldable pub check_text : Levels → ℕ → List ℕ
check_text v rest =
    level_texts (λ n. level_line n (level_in v.tables n)) 7
    ++ (number_line (codes "last ") v.last ++ number_line (codes "rest ") rest)

-- what `check` prints of a version, of its manifest, and of the logs beside the tables
abbrev pub IsChecked : Levels → NamedManifest → Beside → List ℕ → Type 0
IsChecked v m beside text =
    AppendsLogs log_line m.log m.prev_log beside.logs.items (check_text v m.rest) text
