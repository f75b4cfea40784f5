-- How the entries that a merge keeps fall into tables (LevelDB's `doc/impl.md`, "Compactions", cuts
-- its outputs by size; that it never parts a user key is this project's rule).
use Rattle.std.specs.Prelude.{◌≡◌, ℕ, ◌<◌, ◌≤◌, ◌⊎◌, ◌&&◌, Bool, true, false, not, cond, nat_le}
use Rattle.std.specs.Prelude.{List, [], ◌∷◌, ◌++◌}
use Rattle.std.specs.List.{flat_map}
use Rattle.std.specs.Str.{bytes_eq}
use Rattle.lsm_codec.specs.Lists.{Has}
use Rattle.lsm_codec.specs.Keys.{UserKey}
use Rattle.lsm_codec.specs.Entries.{Entry}

-- Here `size` stands for the bytes of the data blocks that are finished when an output has these
-- entries. between two entries of one output no cut is missing: they are of one user key, or what
-- came before is below the target
abbrev pub HasNoCut : (List Entry → ℕ) → ℕ → List Entry → Type 0
HasNoCut size target output = (front : List Entry) (x y : Entry) (back : List Entry)
    → output ≡ front ++ x ∷ y ∷ back
    → (x.user ≡ y.user) ⊎ (size (front ++ x ∷ []) < target)

-- the first output ends where it may: another user key follows, and it has reached the target
abbrev pub IsRightCut : (List Entry → ℕ) → ℕ → List Entry → List Entry → Type 0
IsRightCut size target a b = (front : List Entry) (x y : Entry) (back : List Entry)
    → a ≡ front ++ x ∷ [] → b ≡ y ∷ back
    → (x.user ≡ y.user → ⊥) × (target ≤ size a)

-- so it is of each output and the next one
abbrev pub AreRightCuts : (List Entry → ℕ) → ℕ → List (List Entry) → Type 0
AreRightCuts size target [] = Unit {0}
AreRightCuts size target (a ∷ []) = Unit {0}
AreRightCuts size target (a ∷ b ∷ outputs) =
    IsRightCut size target a b × AreRightCuts size target (b ∷ outputs)

-- The entries fall into these outputs: one after another they are the entries, none is empty, and a
-- cut lies between two entries exactly where their user keys differ and the output before it has
-- reached the target.
pub record IsCutBy (size : List Entry
    → ℕ) (target : ℕ) (es : List Entry) (outputs : List (List Entry)) : Type 0 where
  pub whole : flat_map (λ o. o) outputs ≡ es
  pub filled : (o : List Entry) → Has outputs o → o ≡ [] → ⊥
  pub no_cut_missing : (o : List Entry) → Has outputs o → HasNoCut size target o
  pub right_cuts : AreRightCuts size target outputs

-- ---- how the code cuts

abbrev pub is_empty : List Entry → Bool
is_empty [] = true
is_empty (x ∷ xs) = false

-- the last entry is of that user key
abbrev pub ends_with : List Entry → UserKey → Bool
ends_with [] k = false
ends_with (x ∷ []) k = bytes_eq x.user k
ends_with (x ∷ y ∷ ys) k = ends_with (y ∷ ys) k

-- an output is closed before an entry of this user key: it has entries, of another user key at its
-- end, and has reached the target
abbrev pub closes : (List Entry → ℕ) → ℕ → List Entry → UserKey → Bool
closes size target output k = not (is_empty output)
    && (not (ends_with output k) && nat_le target (size output))

-- the outputs that come of an unfinished one and of the entries that follow
abbrev pub cut_on : (List Entry → ℕ) → ℕ → List Entry → List Entry → List (List Entry)
cut_on size target output [] = cond (is_empty output) [] (output ∷ [])
cut_on size target output (e ∷ es) =
    cond (closes size target output e.user) (output
    ∷ cut_on size target (e ∷ []) es) (cut_on size target (output ++ e ∷ []) es)

abbrev pub cut : (List Entry → ℕ) → ℕ → List Entry → List (List Entry)
cut size target es = cut_on size target [] es
