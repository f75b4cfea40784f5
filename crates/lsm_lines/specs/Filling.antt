-- A write buffer that is filled with the writes of lines.
use Rattle.std.specs.Prelude.{◌≡◌, ℕ, ◌≤◌, ⊤, Bool, List, [], ◌∷◌, ◌++◌, length, Option}
use Rattle.std.specs.Io.KnownBytes.{IsAtEnd}
use Rattle.lsm_batch.specs.Batches.{IsTooLarge}
use Rattle.lsm_batch.specs.Limits.{most_entries}
use Rattle.lsm_batch.specs.declared.write.Write.{Write}
use Rattle.lsm_lines.specs.Gathering.{AreEnded, Reads, Stops}
use Rattle.lsm_lines.specs.Lines.{SpellsWrite}
use Rattle.lsm_lines.specs.declared.line_form.LineForm.{LineForm}
use Rattle.lsm_lines.specs.declared.filling.FillEnd.{FillEnd}
use Rattle.lsm_lines.specs.declared.filling.FillEnd.TheVariants.{Over, Enough, End, Stopped}
use Rattle.lsm_lines.specs.declared.write_line_fault.WriteLineFault.{WriteLineFault}
use Rattle.lsm_lines.specs.declared.write_line_fault.WriteLineFault.TheVariants.{BadLine}
use Rattle.lsm_lines.specs.declared.write_line_fault.WriteLineFault.TheVariants.{OutOfMemory}

-- the line spells no write, or there was no memory for it
abbrev pub IsNoWrite : LineForm → List ℕ → WriteLineFault → Type 0
IsNoWrite form line (BadLine fault) = (w : Write) → SpellsWrite form line w → ⊥
IsNoWrite form line OutOfMemory = ⊤
IsNoWrite form line fault = ⊥

-- the writes of the lines up to here stand behind those that were there
pub record Fills (form : LineForm) (last : Bool) (old new : Option (List ℕ))
    (before after : List Write) : Type 0 where
  pub writes : List Write
  pub reads : Reads form old new writes
  pub ended : AreEnded last old new
  pub put : after ≡ before ++ writes

-- What ended it: a write that would pass a limit; as many writes as may be; the input's end; or the
-- line that comes next.
abbrev pub IsFilled : LineForm → (last : Bool) → (old new : Option (List ℕ))
    → (before after : List Write) → FillEnd → Type 0
IsFilled form last old new before after (Over w) =
    Fills form last old new before (after ++ w ∷ []) × IsTooLarge (after ++ w ∷ [])
IsFilled form last old new before after Enough = Fills form last old new before after
    × (most_entries ≤ length after)
IsFilled form last old new before after End =
    (left : Option (List ℕ)) × Fills form last old left before after × IsAtEnd left
IsFilled form last old new before after (Stopped fault) =
    (left : Option (List ℕ)) × Fills form last old left before after
    × Stops form last left fault
