-- Writes that are cut into batches (this project's rule).
use Rattle.std.specs.Prelude.{◌≡◌, ⊤, List, [], ◌∷◌, ◌++◌}
use Rattle.lsm_batch.specs.declared.write.Write.{Write}
use Rattle.lsm_lines.specs.LastWrites.{KeepsLast}

-- the writes of all parts, in their order
abbrev pub joined : List (List Write) → List Write
joined [] = []
joined (ws ∷ parts) = ws ++ joined parts

-- each batch has the last writes of its part
abbrev pub KeepEach : (parts batches : List (List Write)) → Type 0
KeepEach [] [] = ⊤
KeepEach [] (b ∷ bs) = ⊥
KeepEach (p ∷ ps) [] = ⊥
KeepEach (p ∷ ps) (b ∷ bs) = KeepsLast p b × KeepEach ps bs

-- The writes were cut into parts, and of each part its batch has the last writes.
pub record IsCut (ws : List Write) (batches : List (List Write)) : Type 0 where
  pub parts : List (List Write)
  pub whole : joined parts ≡ ws
  pub each : KeepEach parts batches
