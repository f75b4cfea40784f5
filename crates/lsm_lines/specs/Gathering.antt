-- Lines of writes that are gathered to batches (this project's rule).
use Rattle.std.specs.Prelude.{◌≡◌, ◌⊎◌, ℕ, ◌<◌, ◌≤◌, ⊤, Bool, IsFalse, List, [], ◌++◌, length}
use Rattle.std.specs.Prelude.{Option, Some, None}
use Rattle.std.specs.Io.KnownBytes.{IsAtEnd}
use Rattle.lsm_text.specs.EntryList.{lines_of}
use Rattle.lsm_batch.specs.Batches.{IsBatch, IsLarge, IsTooLarge}
use Rattle.lsm_batch.specs.Limits.{most_entries}
use Rattle.lsm_batch.specs.declared.write.Write.{Write}
use Rattle.lsm_lines.specs.LastWrites.{KeepsLast}
use Rattle.lsm_lines.specs.Lines.{SpellWrites, SpellsWrite}
use Rattle.lsm_lines.specs.declared.line_form.LineForm.{LineForm}
use Rattle.lsm_lines.specs.Reading.{BeginsWith, IsUnended, TakesWhole, most_of_line}
use Rattle.lsm_lines.specs.declared.gathered.Gathered.{Gathered}
use Rattle.lsm_lines.specs.declared.gathered.BatchEnd.{BatchEnd}
use Rattle.lsm_lines.specs.declared.gathered.BatchEnd.TheVariants.{Full, End, Stopped}
use Rattle.lsm_lines.specs.declared.write_line_fault.WriteLineFault.{WriteLineFault}
use Rattle.lsm_lines.specs.declared.write_line_fault.WriteLineFault.TheVariants.{BadLine, LongLine}
use Rattle.lsm_lines.specs.declared.write_line_fault.WriteLineFault.TheVariants.{LargeWrite}
use Rattle.lsm_lines.specs.declared.write_line_fault.WriteLineFault.TheVariants.{NoNewline}
use Rattle.lsm_lines.specs.declared.write_line_fault.WriteLineFault.TheVariants.{OutOfMemory, Read}

-- ---- lines

-- The lines were the first of what is left.
abbrev pub TakesLines : List (List ℕ) → Option (List ℕ) → Option (List ℕ) → Type 0
TakesLines lines None new = ⊤
TakesLines lines (Some xs) None = ⊥
TakesLines lines (Some xs) (Some ys) = lines_of xs ≡ lines ++ lines_of ys

-- The first lines of what is left were taken, and spell just these writes.
pub record Reads (form : LineForm) (old new : Option (List ℕ)) (writes : List Write) : Type 0 where
  pub lines : List (List ℕ)
  pub taken : TakesLines lines old new
  pub spelled : SpellWrites form lines writes

-- Why the first line of what is left is no write that a batch may have, where the last one may lack
-- its newline, or not. A failed read, and want of memory, say nothing of it.
abbrev pub Stops : LineForm → (last : Bool) → Option (List ℕ) → WriteLineFault → Type 0
Stops form last left (BadLine fault) =
    (line : List ℕ) × BeginsWith line left × ((w : Write) → SpellsWrite form line w → ⊥)
Stops form last left LongLine =
    (line : List ℕ) × BeginsWith line left × (most_of_line < length line)
Stops form last left LargeWrite = (line : List ℕ) × BeginsWith line left
    × ((w : Write) × SpellsWrite form line w × IsLarge w)
Stops form last left NoNewline =
    IsFalse last × ((line : List ℕ) × BeginsWith line left × IsUnended line left)
Stops form last left Read = ⊤
Stops form last left OutOfMemory = ⊤

-- ---- batches

-- what is still to come: a write that was read and is held back, if there is one, and what is left
-- of the input, where that is known; and whether its last line may lack the newline
pub record Pending : Type 0 where
  pub form : LineForm
  pub last : Bool
  pub held : List Write
  pub left : Option (List ℕ)

-- as many as a batch may have, or with those that are held back they would pass a limit
abbrev pub IsFull : List Write → List Write → Type 0
IsFull ws held = (most_entries ≤ length ws) ⊎ IsTooLarge (ws ++ held)

-- Each of the lines that were taken has a newline, but the last where it may lack it.
abbrev pub AreEnded : (last : Bool) → Option (List ℕ) → Option (List ℕ) → Type 0
AreEnded last old new = IsFalse last → TakesWhole old new

-- Lines were read, whose writes stand behind the one that was held back. Of all these the first are
-- gathered, and none is left over but the one that is held back now.
abbrev pub Gathers : Pending → Option (List ℕ) → (held ws : List Write) → Type 0
Gathers old left held ws = (writes : List Write) × Reads old.form old.left left writes
    × (old.held ++ writes ≡ ws ++ held) × AreEnded old.last old.left left

-- The line that comes next is no write that a batch may have. For want of memory a write may be
-- lost that was read.
abbrev pub StopsBy : Pending → List Write → WriteLineFault → Type 0
StopsBy old ws OutOfMemory = (left : Option (List ℕ)) × (held : List Write)
    × Gathers old left held ws
StopsBy old ws fault = (left : Option (List ℕ)) × Gathers old left [] ws
    × Stops old.form old.last left fault

-- What ended the batch of these writes: its limits; the input's end; or the line that comes next.
abbrev pub EndsBy : Pending → Pending → List Write → BatchEnd → Type 0
EndsBy old new ws Full = Gathers old new.left new.held ws × IsFull ws new.held
EndsBy old new ws End = (left : Option (List ℕ)) × Gathers old left [] ws × IsAtEnd left
EndsBy old new ws (Stopped fault) = StopsBy old ws fault

-- The first writes that were to come, so many, became a batch.
pub record IsGathered (old new : Pending) (r : Gathered) : Type 0 where
  pub form : new.form ≡ old.form
  pub last_line : new.last ≡ old.last
  pub ws : List Write
  pub count : r.lines ≡ length ws
  pub last : KeepsLast ws r.batch
  pub batch : 0 < length ws → IsBatch r.batch
  pub ends : EndsBy old new ws r.end
