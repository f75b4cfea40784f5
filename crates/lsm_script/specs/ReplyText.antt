-- What is printed of replies: a line a reply, and for a list of files a line each and `end`. Keys
-- and values stand in a form. This project's rule.
use Rattle.std.specs.Prelude.{ℕ, List, [], ◌∷◌, ◌++◌, codes, decimal}
use Rattle.std.specs.List.{flat_map}
use Rattle.lsm_manifest.specs.declared.file_meta.FileMeta.{FileMeta}
use Rattle.lsm_text.specs.ManifestPrinting.{key_word_in}
use Rattle.lsm_text.specs.Spelling.{spelled}
use Rattle.lsm_text.specs.declared.form.Form.{Form}
use Rattle.lsm_text.specs.declared.form.Form.TheVariants.{Hex}
use Rattle.lsm_state.specs.declared.ingest.Ingested.{Ingested as Numbers}
use Rattle.lsm_script.specs.RefusalText.{refused_text}
use Rattle.lsm_script.specs.declared.reply.Reply.{Reply}
use Rattle.lsm_script.specs.declared.reply.Reply.TheVariants.{Ingested, Value, Absent, Snapshot}
use Rattle.lsm_script.specs.declared.reply.Reply.TheVariants.{Released, Job, Move, NoJob, Merged}
use Rattle.lsm_script.specs.declared.reply.Reply.TheVariants.{Installed, Cancelled, Pinned}
use Rattle.lsm_script.specs.declared.reply.Reply.TheVariants.{Unpinned, Removed, Files, Refused}
use Rattle.lsm_script.specs.declared.reply.Reserved.{Reserved}

-- ---- replies, each without its newline

-- a space and a number
abbrev pub number_text : ℕ → List ℕ
number_text n = 32 ∷ decimal n

-- for each
abbrev pub numbers_text : List ℕ → List ℕ
numbers_text numbers = flat_map number_text numbers

-- two words, a number behind each
unfoldable pub two_numbers : List ℕ → ℕ → List ℕ → ℕ → List ℕ
two_numbers first m second n = first ++ (decimal m ++ (second ++ decimal n))

-- `file N first F last L`
unfoldable pub ingested_text : Numbers → List ℕ
ingested_text r = two_numbers (codes "file ") r.file (codes " first ") r.first
    ++ (codes " last " ++ decimal r.last)

-- `job T level L inputs N N ..`, and for a move `move T level L input N`
unfoldable pub reserved_text : List ℕ → List ℕ → Reserved → List ℕ
reserved_text what inputs r = two_numbers what r.ticket (codes " level ") r.level
    ++ (inputs ++ numbers_text r.inputs)

-- `NUMBER SIZE SMALLEST LARGEST`, the last two as `KEY@SEQ+` or `KEY@SEQ-`
unfoldable pub file_words_in : Form → FileMeta → List ℕ
file_words_in form f = decimal f.number
    ++ (32 ∷ (decimal f.size ++ (32
    ∷ (key_word_in form f.smallest ++ (32 ∷ key_word_in form f.largest)))))

-- the same behind the level
unfoldable pub listed_line : Form → ℕ × FileMeta → List ℕ
listed_line form f = decimal f.0 ++ (32 ∷ (file_words_in form f.1 ++ (10 ∷ [])))

-- a line a file
abbrev pub listed_lines : Form → List (ℕ × FileMeta) → List ℕ
listed_lines form files = flat_map (listed_line form) files

abbrev pub line_of : Form → Reply → List ℕ
line_of form (Ingested r) = ingested_text r
line_of form (Value value) = codes "value " ++ spelled form value
line_of form Absent = codes "absent"
line_of form (Snapshot id seq) = two_numbers (codes "snapshot ") id (codes " seq ") seq
line_of form Released = codes "released"
line_of form (Job r) = reserved_text (codes "job ") (codes " inputs") r
line_of form (Move r) = reserved_text (codes "move ") (codes " input") r
line_of form NoJob = codes "none"
line_of form (Merged ticket tables) = two_numbers (codes "merged ") ticket (codes " tables ") tables
line_of form (Installed numbers) = codes "installed" ++ numbers_text numbers
line_of form Cancelled = codes "cancelled"
line_of form (Pinned id) = codes "pin " ++ decimal id
line_of form Unpinned = codes "unpinned"
line_of form (Removed numbers) = codes "removed" ++ numbers_text numbers
line_of form (Files files) = listed_lines form files ++ codes "end"
line_of form (Refused refusal) = refused_text refusal

unfoldable pub reply_text : Form → Reply → List ℕ
reply_text form reply = line_of form reply ++ (10 ∷ [])

-- those of a script, one after another, in hex
abbrev pub replies_text : List Reply → List ℕ
replies_text replies = flat_map (reply_text Hex) replies
