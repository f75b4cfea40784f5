-- Going through a table that is read block by block, entry by entry.
use Rattle.std.specs.Prelude.{◌≡◌, ℕ, Bool, true, false, List, [], ◌∷◌, Option, Some, None}
use Rattle.lsm_codec.specs.Entries.{Entry}
use Rattle.lsm_block.specs.Held.{first_of}
use Rattle.lsm_block.specs.Standing.{but_first}
use Rattle.lsm_table.specs.Footer.{body_of}
use Rattle.lsm_table.specs.HeldTable.{AreNamed, left_of}
use Rattle.lsm_reader.specs.Blocks.{Rest, left_at}

-- the entry at which a reader stands, if it stands at one, and the entries that are left after it
pub record Reading : Type 0 where
  pub entry : Option Entry
  pub left : List Entry

-- where these entries are left, and it stands at the first
abbrev pub reading_on : List Entry → Reading
reading_on es = record { entry = first_of es; left = but_first es }

-- before the first entry that an index names, or at a place in the table
abbrev pub reading_of : List ℕ → List Entry → Option Rest → Reading
reading_of image index None = record { entry = None; left = left_of (body_of image) [] index }
reading_of image index (Some rest) = reading_on (left_at image rest)

-- What it has still to read is named.
abbrev pub IsNamedFrom : List ℕ → List Entry → Option Rest → Type 0
IsNamedFrom image index None = AreNamed (body_of image) index
IsNamedFrom image index (Some rest) = AreNamed (body_of image) rest.index

-- What a step answers: it stands at the entry that was the first left; or none was left, and it
-- stands at none.
abbrev pub StepsOn : Bool → Reading → Reading → Type 0
StepsOn true old new = (e : Entry) × (new.entry ≡ Some e) × (old.left ≡ e ∷ new.left)
StepsOn false old new = (new.entry ≡ None) × (old.left ≡ []) × (new.left ≡ [])

abbrev pub value_in : Option Entry → List ℕ
value_in None = []
value_in (Some e) = e.value
