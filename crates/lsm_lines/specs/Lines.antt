-- What lines spell (this project's rule).
use Rattle.std.specs.Prelude.{ℕ, ⊤, List, [], ◌∷◌}
use Rattle.lsm_text.specs.BatchText.{IsWriteLine}
use Rattle.lsm_batch.specs.declared.write.Write.{Write}
use Rattle.lsm_lines.specs.Objects.{IsPutObject}
use Rattle.lsm_lines.specs.declared.line_form.LineForm.{LineForm}
use Rattle.lsm_lines.specs.declared.line_form.LineForm.TheVariants.{Json, Words}

-- The line spells what is written of a key.
abbrev pub SpellsWrite : LineForm → List ℕ → Write → Type 0
SpellsWrite (Words form) line w = IsWriteLine form line w
SpellsWrite Json line w = IsPutObject line w

-- line by line
abbrev pub SpellWrites : LineForm → List (List ℕ) → List Write → Type 0
SpellWrites form [] [] = ⊤
SpellWrites form [] (w ∷ ws) = ⊥
SpellWrites form (l ∷ ls) [] = ⊥
SpellWrites form (l ∷ ls) (w ∷ ws) = SpellsWrite form l w × SpellWrites form ls ws
