-- The picture of a shape, as SVG: this project's rule. Under the words of each level that has files
-- stand its files as bars, in the level's order: those of level 0 one below another, those of
-- another level in one row. A bar goes along the axis of keys from the file's least to its greatest
-- user key, and its title tells the file. Lengths are in hundredths of a point.
use Rattle.std.specs.Prelude.{ℕ, zero, suc, ◌+◌, ◌-◌, ◌*◌, ◌/◌, ◌%◌, ◌==◌, max, Bool, List, [], ◌∷◌}
use Rattle.std.specs.Prelude.{◌++◌, length, codes, Option, cond}
use Rattle.std.specs.List.{flat_map}
use Rattle.lsm_codec.specs.Keys.{user_part}
use Rattle.lsm_manifest.specs.declared.file_meta.FileMeta.{FileMeta}
use Rattle.lsm_manifest.specs.declared.shape.Shape.{Shape}
use Rattle.lsm_text.specs.ManifestPrinting.{key_word_in}
use Rattle.lsm_text.specs.declared.form.Form.{Form}
use Rattle.lsm_cmd_levels.specs.Axis.{across, begin_of, end_of}
use Rattle.lsm_cmd_levels.specs.Dues.{is_taken}
use Rattle.lsm_cmd_levels.specs.Lines.{due_words, labelled, last_words, level_texts, level_words}
use Rattle.lsm_cmd_levels.specs.Sums.{files_at}
use Rattle.lsm_cmd_levels.specs.declared.due.Due.{Due}
use Rattle.lsm_cmd_levels.specs.declared.drawing.TheConstants.{OPENING, STYLE}

-- ---- text within an element

-- a byte as XML spells it
abbrev pub escaped_byte : ℕ → List ℕ
escaped_byte b = cond (b == 38) (codes "&amp;") (cond (b
    == 60) (codes "&lt;") (cond (b == 62) (codes "&gt;") (b ∷ [])))

unfoldable pub escaped : List ℕ → List ℕ
escaped text = flat_map escaped_byte text

-- ---- heights

-- how many rows the files of a level have
abbrev pub rows : (level count : ℕ) → ℕ
rows level count = cond (level == 0) count 1

-- how high a level is, with its words
abbrev pub height_of : (level count : ℕ) → ℕ
height_of level count = cond (count == 0) 0 (2400 + rows level count * 2000)

-- how high the first n levels are
unfoldable pub top_of : Shape → ℕ → ℕ
top_of s zero = 0
top_of s (suc n) = top_of s n + height_of n (length (files_at s n))

-- ---- a file

-- a name, with what stands before a number, and that number
unfoldable pub attribute : List ℕ → ℕ → List ℕ
attribute name n = labelled name n ++ (34 ∷ [])

-- where the file's bar begins, and how wide it is: what is taken is to be seen
abbrev pub left_of : Shape → FileMeta → ℕ
left_of s f = across s (begin_of s (user_part f.smallest))

abbrev pub width_of : Shape → (taken : Bool) → FileMeta → ℕ
width_of s taken f = max (cond taken 200 40) (across s (end_of s (user_part f.largest))
    - left_of s f)

-- how far it stands out of its row
abbrev pub rise : (taken : Bool) → ℕ
rise taken = cond taken 300 0

-- where the row of the file of this index is
abbrev pub row_of : Shape → (level index : ℕ) → ℕ
row_of s level index = top_of s level + (2000 + cond (level == 0) (index * 2000) 0)

-- a file that is taken has another colour, and every second file a lighter one
abbrev pub class_words : (taken : Bool) → (index : ℕ) → List ℕ
class_words taken index =
    cond taken (codes "<rect class=\"due") (codes "<rect class=\"kept")
    ++ cond (index % 2 == 0) (codes "\"") (codes " odd\"")

unfoldable pub place_words : Shape → (level index : ℕ) → (taken : Bool) → FileMeta → List ℕ
place_words s level index taken f =
    attribute (codes " x=\"") (left_of s f)
    ++ (attribute (codes " y=\"") (row_of s level index - rise taken)
    ++ (attribute (codes " width=\"") (width_of s taken f)
    ++ attribute (codes " height=\"") (1600 + 2 * rise taken)))

-- `file N bytes B SMALLEST to LARGEST`
unfoldable pub title_words : Form → FileMeta → List ℕ
title_words form f =
    labelled (codes "file ") f.number ++ (labelled (codes " bytes ") f.size
    ++ (32 ∷ (escaped (key_word_in form f.smallest)
    ++ (codes " to " ++ escaped (key_word_in form f.largest)))))

-- the bar of a file, which is taken or not
unfoldable pub bar_as : Form → Shape → (level index : ℕ) → (taken : Bool) → FileMeta → List ℕ
bar_as form s level index taken f =
    class_words taken index ++ (place_words s level index taken f
    ++ (codes "><title>" ++ (title_words form f ++ codes "</title></rect>\n")))

abbrev pub bar : Form → Shape → Option Due → (level index : ℕ) → FileMeta → List ℕ
bar form s due level index f = bar_as form s level index (is_taken due level f) f

-- ---- a level

-- the bars of files, of which the first has this index
unfoldable pub bars_from : Form → Shape → Option Due → (level index : ℕ) → List FileMeta → List ℕ
bars_from form s due level index [] = []
bars_from form s due level index (f ∷ fs) =
    bar form s due level index f ++ bars_from form s due level (suc index) fs

-- words in a line of their own
unfoldable pub text_line : ℕ → List ℕ → List ℕ
text_line place words = attribute (codes "<text y=\"") place ++ (62 ∷ (words ++ codes "</text>\n"))

unfoldable pub level_picture : Form → Shape → Option Due → ℕ → List FileMeta → List ℕ
level_picture form s due level fs =
    cond (length fs == 0) [] (text_line (top_of s level + 1300) (level_words level fs)
    ++ bars_from form s due level 0 fs)

-- ---- the whole

unfoldable pub size_words : ℕ → List ℕ
size_words height = attribute (codes " height=\"") (height / 100)
    ++ attribute (codes " viewBox=\"-2000 0 104000 ") height

unfoldable pub head_words : ℕ → List ℕ
head_words height = OPENING.now ++ (size_words height ++ (codes ">\n" ++ STYLE.now))

unfoldable pub foot_words : Shape → ℕ → Option Due → List ℕ
foot_words s rest due =
    text_line (top_of s 7 + 1600) (last_words s rest ++ (32 ∷ due_words due)) ++ codes "</svg>\n"

unfoldable pub picture_text : Form → Shape → ℕ → Option Due → List ℕ
picture_text form s rest due =
    head_words (top_of s 7 + 2400)
    ++ (level_texts (λ n. level_picture form s due n (files_at s n)) 7 ++ foot_words s rest due)
