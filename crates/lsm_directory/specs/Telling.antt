-- What is told of a fault on standard error: this project's rule.
use Rattle.std.specs.Prelude.{ℕ, Bool, true, false, List, [], ◌∷◌, ◌++◌, codes, Option, Some, None}
use Rattle.lsm_storage.specs.FileNames.{table_name}

-- the file that a line names, where files are named at all
abbrev pub named_in : Bool → Option ℕ → Option ℕ
named_in true file = file
named_in false file = None

-- the line that names the file of a table: `in 000005.ldb`
abbrev pub file_line : ℕ → List ℕ
file_line number = codes "in " ++ (table_name number ++ (10 ∷ []))

-- the line of a text, with the file that it names: `TEXT in 000005.ldb`
abbrev pub line_of : Option ℕ → List ℕ → List ℕ
line_of None text = text ++ (10 ∷ [])
line_of (Some number) text = text ++ (codes " in " ++ (table_name number ++ (10 ∷ [])))

-- the line of the file that stands behind the line of a fault, where that does not name it
abbrev pub file_behind : Bool → Option ℕ → List ℕ
file_behind true file = []
file_behind false None = []
file_behind false (Some number) = file_line number

-- what is told of a fault with this text and this meaning, where both are known
abbrev pub told_text : Bool → Option ℕ → (text meaning : Option (List ℕ)) → Option (List ℕ)
told_text named file None meaning = None
told_text named file (Some text) None = None
told_text named file (Some text) (Some meaning) =
    Some (line_of (named_in named file) text ++ (file_behind named file ++ meaning))
