-- What is said of a mistake (this project's rule): the number of the word, from 1, what is wanted
-- there, and what is wrong with it.
use Rattle.std.specs.Prelude.{ℕ, ◌+◌, ◌==◌, Bool, true, false, if◌then◌else◌, List, [], ◌∷◌, ◌++◌}
use Rattle.std.specs.Prelude.{codes, decimal, Option, None, Some, nat_lt, ◌&&◌}
use Rattle.lsm_text.specs.EntryPrinting.{bytes_word}
use Rattle.lsm_text.specs.declared.form.Form.{Form}
use Rattle.lsm_text.specs.declared.form.Form.TheVariants.{Hex, Text}
use Rattle.lsm_text.specs.declared.syntax_fault.SyntaxFault.{SyntaxFault}
use Rattle.lsm_cmd_shell.specs.Mistakes.{most_of}
use Rattle.lsm_cmd_shell.specs.declared.want.Want.{Want}
use Rattle.lsm_cmd_shell.specs.declared.want.Want.TheVariants.{Key, Value, From, FromBeside, To}
use Rattle.lsm_cmd_shell.specs.declared.want.Want.TheVariants.{KeyWrite, Limit, Count, Snapshot}
use Rattle.lsm_cmd_shell.specs.declared.want.Want.TheVariants.{Pin, Ticket, Level}
use Rattle.lsm_cmd_shell.specs.declared.mistake.Wrong.{Wrong}
use Rattle.lsm_cmd_shell.specs.declared.mistake.Wrong.TheVariants.{Missing, Extra, NoBytes}
use Rattle.lsm_cmd_shell.specs.declared.mistake.Wrong.TheVariants.{NoNumber, NoWrite, IsLimit}
use Rattle.lsm_cmd_shell.specs.declared.mistake.Mistake.{Mistake}
use Rattle.lsm_cmd_shell.specs.declared.mistake.Mistake.TheVariants.{Blank, Return, Word}

-- what is wanted, as `help` calls it
abbrev pub want_name : Want → List ℕ
want_name Key = codes "KEY"
want_name Value = codes "VALUE"
want_name From = codes "FROM"
want_name FromBeside = codes "FROM"
want_name To = codes "TO"
want_name KeyWrite = codes "W"
want_name Limit = codes "limit"
want_name Count = codes "N"
want_name Snapshot = codes "ID"
want_name Pin = codes "ID"
want_name Ticket = codes "T"
want_name Level = codes "LEVEL"

-- how words of a form are called
unfoldable pub words_text : Form → List ℕ
words_text Hex = codes "in hex"
words_text Text = codes "of text"

-- behind a text
unfoldable pub formed : List ℕ → Form → List ℕ
formed front form = front ++ words_text form

-- ---- where a word stops being one for bytes

-- a byte: by name, as itself between two backticks (96) where it prints, or in hex
unfoldable pub byte_text : ℕ → List ℕ
byte_text b =
    if b == 9 then codes "a tab"
    else if b == 13 then codes "a carriage return"
    else if nat_lt 32 b && nat_lt b 127 then 96 ∷ b ∷ 96 ∷ []
    else codes "the byte " ++ bytes_word (b ∷ [])

-- as one of a text
unfoldable pub spelling_text : ℕ → List ℕ
spelling_text b = codes ", which is spelled `\\x" ++ (bytes_word (b ∷ []) ++ (96 ∷ []))

-- how it is spelled; a backslash is 92
unfoldable pub cure_text : Form → ℕ → List ℕ
cure_text Hex b = codes ", which is no hex digit"
cure_text Text b =
    if b == 92 then
    codes ", which stands only in `\\xNN`, with two lower-case hex digits, and is spelled `\\x5c`"
    else spelling_text b

abbrev pub stuck_text : Form → ℕ → Option ℕ → List ℕ
stuck_text form before (Some b) = byte_text b ++ cure_text form b
stuck_text form before None =
    if before == 0 then codes "no word, where `.` stands for no bytes"
    else codes "the word's end, where a hex digit is missing"

unfoldable pub place_text : SyntaxFault → List ℕ
place_text fault = stuck_text fault.form fault.before fault.byte

-- `--text` is missing
unfoldable pub instead_text : Bool → List ℕ
instead_text true = codes "; with --text it is one"
instead_text false = []

-- ---- what is wrong with a word, behind its number

-- what is wanted, between two texts
unfoldable pub between : List ℕ → Want → List ℕ → List ℕ
between front want back = front ++ (want_name want ++ back)

-- the column of the place in the word, from 1
unfoldable pub column_text : SyntaxFault → List ℕ
column_text fault =
    codes ": column " ++ (decimal (fault.before + 1) ++ (codes ": " ++ place_text fault))

unfoldable pub no_bytes_text : Want → SyntaxFault → Bool → List ℕ
no_bytes_text want fault text = between (codes ": ") want (codes " is no word ")
    ++ (words_text fault.form ++ (column_text fault ++ instead_text text))

unfoldable pub no_number_text : Want → List ℕ
no_number_text want =
    between (codes ": ") want (codes " is no number from 0 to ") ++ decimal (most_of want)

unfoldable pub no_write_text : Form → Bool → List ℕ
no_write_text form text =
    formed (codes " is neither KEY=VALUE nor KEY! ") form ++ instead_text text

abbrev pub wrong_text : Wrong → List ℕ
wrong_text (Missing want) = between (codes ": ") want (codes " is missing")
wrong_text Extra = codes " is one too many, where one blank parts two words"
wrong_text (NoBytes want fault text) = no_bytes_text want fault text
wrong_text (NoNumber want) = no_number_text want
wrong_text (NoWrite form text) = no_write_text form text
wrong_text IsLimit = codes ": FROM is `limit`, which is spelled `\\x6cimit` where TO stands too"

-- ---- the line of a reply

unfoldable pub word_text : ℕ → Wrong → List ℕ
word_text n wrong = codes "bad line: word " ++ (decimal n ++ (wrong_text wrong ++ (10 ∷ [])))

unfoldable pub mistake_text : Mistake → List ℕ
mistake_text Blank = codes "bad line: it begins with a blank\n"
mistake_text Return = codes "bad line: it ends with a carriage return\n"
mistake_text (Word n wrong) = word_text n wrong
