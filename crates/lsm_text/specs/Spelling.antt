-- Words for bytes, in hex or as text: this project's rule.
use Rattle.std.specs.Prelude.{◌≡◌, ◌≢◌, ℕ, ◌+◌, ◌/◌, ◌%◌, ◌<◌, ◌==◌, ◌&&◌, ◌⊎◌, Bool, true, not}
use Rattle.std.specs.Prelude.{nat_lt, if◌then◌else◌, List, [], ◌∷◌, ◌++◌, codes}
use Rattle.std.specs.List.{flat_map}
use Rattle.std.specs.Str.{bytes_eq}
use Rattle.lsm_text.specs.EntryList.{IsBytesWord}
use Rattle.lsm_text.specs.EntryPrinting.{bytes_word}
use Rattle.lsm_text.specs.declared.form.Form.{Form}
use Rattle.lsm_text.specs.declared.form.Form.TheVariants.{Hex, Text}

-- In a text such a byte stands for itself: it prints and is no blank (33 to 126), and is none of
-- `!` (33), `=` (61), `@` (64) and `\` (92).
abbrev pub is_plain : ℕ → Bool
is_plain b = nat_lt 33 b && nat_lt b 127 && not (b == 61) && not (b == 64) && not (b == 92)

-- 0 to 9, a to f
abbrev pub lower_digit : ℕ → ℕ
lower_digit v = if nat_lt v 10 then 48 + v else 87 + v

-- `\xNN`: two lower-case hex digits
abbrev pub escaped : ℕ → List ℕ
escaped b = 92 ∷ 120 ∷ lower_digit (b / 16) ∷ lower_digit (b % 16) ∷ []

-- ---- what is printed

unfoldable pub spelled_byte : ℕ → List ℕ
spelled_byte b = if is_plain b then b ∷ [] else escaped b

-- `.` is no bytes, so that a lone dot is `\x2e`
abbrev pub text_word : List ℕ → List ℕ
text_word [] = codes "."
text_word (b ∷ bs) = if bytes_eq (b ∷ bs) (codes ".") then escaped 46
    else flat_map spelled_byte (b ∷ bs)

abbrev pub spelled : Form → List ℕ → List ℕ
spelled Hex bytes = bytes_word bytes
spelled Text bytes = text_word bytes

-- ---- what is read

-- a byte of a text: itself, if it is plain, or `\xNN` of any byte
abbrev pub IsPart : List ℕ → ℕ → Type 0
IsPart part b = ((part ≡ b ∷ []) × (is_plain b ≡ true)) ⊎ ((part ≡ escaped b) × (b < 256))

-- byte after byte
abbrev pub AreParts : List ℕ → List ℕ → Type 0
AreParts word [] = word ≡ []
AreParts word (b ∷ bs) = (part : List ℕ) × (rest : List ℕ) × (word ≡ part ++ rest) × IsPart part b
    × AreParts rest bs

abbrev pub IsTextWord : List ℕ → List ℕ → Type 0
IsTextWord word [] = word ≡ codes "."
IsTextWord word (b ∷ bs) = (word ≢ codes ".") × AreParts word (b ∷ bs)

-- the word spells the bytes
abbrev pub IsWord : Form → List ℕ → List ℕ → Type 0
IsWord Hex word bytes = IsBytesWord word bytes
IsWord Text word bytes = IsTextWord word bytes

-- ---- what no word has

-- none of `=`, `!`, `@`, a blank and a newline, which stand between words
abbrev pub IsClear : ℕ → Type 0
IsClear c = (c ≢ 61) × (c ≢ 33) × (c ≢ 64) × (c ≢ 32) × (c ≢ 10)
