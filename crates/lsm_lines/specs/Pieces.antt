-- How much of a line is held while its pieces are read.
use Rattle.std.specs.Prelude.{◌≡◌, ℕ, ◌<◌, ◌≤◌, ⊤, List, [], length}
use Rattle.lsm_lines.specs.Reading.{most_of_line}
use Rattle.lsm_lines.specs.declared.line_reader.HeldLine.{HeldLine}
use Rattle.lsm_lines.specs.declared.line_reader.HeldLine.TheVariants as held
use Rattle.lsm_lines.specs.declared.line_reader.NextLine.{NextLine}
use Rattle.lsm_lines.specs.declared.line_reader.NextLine.TheVariants.{Line, TooLong, NoMemory, End}

-- Of a line of which this front was read so much is held: all of it; or not any more, since it is
-- too long, or there is no memory; or nothing was read.
abbrev pub Holds : NextLine → (line front : List ℕ) → Type 0
Holds Line line front = (line ≡ front) × (length front ≤ most_of_line)
Holds TooLong line front = most_of_line < length front
Holds NoMemory line front = ⊤
Holds End line front = (line ≡ []) × (front ≡ [])

-- a line that ends with its newline, of which so much is held
abbrev pub whole_line : NextLine → HeldLine
whole_line Line = held.Line
whole_line TooLong = held.TooLong
whole_line NoMemory = held.NoMemory
whole_line End = held.End

-- a line that ends with the input
abbrev pub last_line : NextLine → HeldLine
last_line Line = held.Last
last_line TooLong = held.TooLong
last_line NoMemory = held.NoMemory
last_line End = held.End
