-- Lines that are read one by one of an input (this project's rule).
use Rattle.std.specs.Prelude.{◌≡◌, ◌⊎◌, ℕ, ◌<◌, ◌≤◌, ⊤, List, [], ◌∷◌, ◌++◌, length, Option, Some}
use Rattle.std.specs.Prelude.{None}
use Rattle.std.specs.Io.KnownBytes.{IsAtEnd, prepend_known}
use Rattle.lsm_text.specs.EntryList.{lines_of}
use Rattle.lsm_lines.specs.declared.line_reader.HeldLine.{HeldLine}
use Rattle.lsm_lines.specs.declared.line_reader.HeldLine.TheVariants as held
use Rattle.lsm_lines.specs.declared.line_reader.NextLine.{NextLine}
use Rattle.lsm_lines.specs.declared.line_reader.NextLine.TheVariants.{Line, TooLong, NoMemory, End}

-- the bytes that were read ahead, and those that the input has behind them, where these are known
pub record ReadAhead : Type 0 where
  pub ready : List ℕ
  pub behind : Option (List ℕ)

-- all that is left
abbrev pub bytes_left : ReadAhead → Option (List ℕ)
bytes_left a = prepend_known a.ready a.behind

-- the line that was read last, and all that is left, where that is known
pub record Lined : Type 0 where
  pub line : List ℕ
  pub left : Option (List ℕ)

-- the most bytes of a line, 8 MiB
abbrev pub most_of_line : ℕ
most_of_line = 8388608

-- The line was the first of what is left. Its newline was taken too, if it has one.
abbrev pub TakesLine : List ℕ → Option (List ℕ) → Option (List ℕ) → Type 0
TakesLine line None new = ⊤
TakesLine line (Some xs) None = ⊥
TakesLine line (Some xs) (Some ys) = lines_of xs ≡ line ∷ lines_of ys

-- The text is empty, or it ends with a newline: each of its lines has one.
abbrev pub IsWhole : List ℕ → Type 0
IsWhole text = (text ≡ []) ⊎ ((front : List ℕ) × (text ≡ front ++ (10 ∷ [])))

-- A whole text was taken of what is left.
abbrev pub TakesWhole : Option (List ℕ) → Option (List ℕ) → Type 0
TakesWhole None new = ⊤
TakesWhole (Some xs) None = ⊥
TakesWhole (Some xs) (Some ys) = (text : List ℕ) × (xs ≡ text ++ ys) × IsWhole text

-- what is left begins with this line, where it is known
abbrev pub BeginsWith : List ℕ → Option (List ℕ) → Type 0
BeginsWith line None = ⊤
BeginsWith line (Some xs) = (rest : List (List ℕ)) × (lines_of xs ≡ line ∷ rest)

-- all that is left is this line, where it is known, and it has no newline
abbrev pub IsUnended : List ℕ → Option (List ℕ) → Type 0
IsUnended line None = ⊤
IsUnended line (Some xs) = xs ≡ line

-- What was read next, where no more is read of a line than is held: a line with its newline; the
-- last one, which has none; so much of a line that it is too long, or for which there is no memory;
-- or nothing is left.
abbrev pub IsNextHeld : Lined → Lined → HeldLine → Type 0
IsNextHeld old new held.Line = (length new.line ≤ most_of_line)
    × TakesLine new.line old.left new.left × TakesWhole old.left new.left
IsNextHeld old new held.Last = (length new.line ≤ most_of_line)
    × TakesLine new.line old.left new.left × IsUnended new.line old.left
IsNextHeld old new held.TooLong =
    (line : List ℕ) × (most_of_line < length line) × BeginsWith line old.left
IsNextHeld old new held.NoMemory = ⊤
IsNextHeld old new held.End = IsAtEnd old.left × IsAtEnd new.left

-- What was read next: a line, which is held; one that is too long, or for which there is no memory,
-- and which is not held; or nothing is left.
abbrev pub IsNext : Lined → Lined → NextLine → Type 0
IsNext old new Line = (length new.line ≤ most_of_line) × TakesLine new.line old.left new.left
IsNext old new TooLong = (line : List ℕ) × (most_of_line < length line)
    × TakesLine line old.left new.left
IsNext old new NoMemory = (line : List ℕ) × TakesLine line old.left new.left
IsNext old new End = IsAtEnd old.left × IsAtEnd new.left
