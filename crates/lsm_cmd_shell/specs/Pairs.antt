-- What is printed of a scan (this project's rule). Keys and values stand in a form.
use Rattle.std.specs.Prelude.{◌≡◌, ◌⊎◌, ℕ, ◌-◌, Bool, true, false, ⊤, List, [], ◌∷◌, ◌++◌, take}
use Rattle.std.specs.Prelude.{Option, Some, None, Result, Ok, Err}
use Rattle.std.specs.List.{flat_map, filter}
use Rattle.std.specs.Io.KnownBytes.{Appends, Keeps}
use Rattle.lsm_model.specs.Files.{all_entries}
use Rattle.lsm_model.specs.Scanning.{IsScan, Pair, UsersAscend}
use Rattle.lsm_iterators.specs.Shown.{Showing}
use Rattle.lsm_shelf.specs.Told.{Told}
use Rattle.lsm_table.specs.ReadFault.{IsMemoryOrShelf, ReadCounted}
use Rattle.lsm_version.specs.Versions.{Levels, files}
use Rattle.lsm_requests.specs.KeyBounds.{is_within}
use Rattle.lsm_text.specs.Spelling.{spelled}
use Rattle.lsm_text.specs.declared.form.Form.{Form}
use Rattle.lsm_requests.specs.declared.key_bounds.KeyBounds.{KeyBounds}
use Rattle.lsm_cmd_shell.specs.declared.pairs.Step.{Step}
use Rattle.lsm_cmd_shell.specs.declared.pairs.Step.TheVariants.{End, Outside, Within}
use Rattle.lsm_cmd_shell.specs.declared.pairs.ScanFault.{ScanFault}
use Rattle.lsm_cmd_shell.specs.declared.pairs.ScanFault.TheVariants.{Read, NoMemory, Write}

-- the first so many, or all
abbrev pub limited : Option ℕ → List Pair → List Pair
limited None pairs = pairs
limited (Some n) pairs = take n pairs

-- after one more was shown
abbrev pub one_less : Option ℕ → Option ℕ
one_less None = None
one_less (Some n) = Some (n - 1)

-- of these pairs those that a scan shows: the first so many within the bounds
abbrev pub shown : KeyBounds → Option ℕ → List Pair → List Pair
shown bounds limit pairs = limited limit (filter (λ p. is_within bounds p.0) pairs)

-- `KEY=VALUE`
unfoldable pub pair_line : Form → Pair → List ℕ
pair_line form p = spelled form p.0 ++ (61 ∷ (spelled form p.1 ++ (10 ∷ [])))

-- a line for each
unfoldable pub pairs_text : Form → List Pair → List ℕ
pairs_text form pairs = flat_map (pair_line form) pairs

-- ---- one step

-- Of the pairs that are left the first one was taken, and stands within the bounds, or not; or none
-- that is left does.
abbrev pub Steps : KeyBounds → List Pair → Showing → Step → Type 0
Steps bounds left new End = filter (λ p. is_within bounds p.0) left ≡ []
Steps bounds left new Outside = (p : Pair) × (left ≡ p ∷ new.left) × (is_within bounds p.0 ≡ false)
Steps bounds left new Within =
    (p : Pair) × (left ≡ p ∷ new.left) × (is_within bounds p.0 ≡ true) × (new.here ≡ Some p)

-- Lines were written for the first of those that are to be shown, at most one; or none is left; or,
-- unless a write failed, nothing was written.
abbrev pub PrintsNext : Type 0 → Form → KeyBounds → (limit limit' : Option ℕ)
    → (left left' : List Pair) → Result Bool ScanFault → (old new : Option (List ℕ)) → Type 0
PrintsNext honest form bounds limit limit' left left' (Ok true) old new =
    (front : List Pair) × Appends old new (pairs_text form front)
    × (honest → (shown bounds limit left ≡ front ++ shown bounds limit' left')
    × UsersAscend left')
PrintsNext honest form bounds limit limit' left left' (Ok false) old new =
    Keeps old new × (honest → shown bounds limit left ≡ [])
PrintsNext honest form bounds limit limit' left left' (Err fault) old new =
    (fault ≡ Write → ⊥) → Keeps old new

-- ---- a scan

-- a write failed
abbrev pub IsWrite : Result (Unit {0}) ScanFault → Type 0
IsWrite (Ok done) = ⊥
IsWrite (Err Write) = ⊤
IsWrite (Err (Read fault)) = ⊥
IsWrite (Err NoMemory) = ⊥

-- it was not stopped
abbrev pub IsWhole : Result (Unit {0}) ScanFault → Type 0
IsWhole (Ok done) = ⊤
IsWhole (Err fault) = ⊥

-- all of the pairs that are to be shown, or the first of them, where it was stopped
abbrev pub IsFront : Result (Unit {0}) ScanFault → List Pair → List Pair → Type 0
IsFront (Ok done) front all = front ≡ all
IsFront (Err fault) front all = (back : List Pair) × (all ≡ front ++ back)

-- Lines were written for pairs: over an honest shelf for those that are to be shown of these that
-- are left.
pub record PrintsLeft (honest : Type 0) (form : Form) (bounds : KeyBounds) (limit : Option ℕ)
    (left : List Pair) (r : Result (Unit {0}) ScanFault) (old new : Option (List ℕ)) : Type 0 where
  pub front : List Pair
  pub written : (IsWrite r → ⊥) → Appends old new (pairs_text form front)
  pub shows : honest → IsFront r front (shown bounds limit left)

-- why a scan was stopped: memory ran out; a write failed; or a table could not be read, over an
-- honest shelf only since the shelf refused
abbrev pub IsScanFault : Type 0 → Told → Told → ScanFault → Type 0
IsScanFault honest was is NoMemory = ⊤
IsScanFault honest was is Write = ⊤
IsScanFault honest was is (Read fault) = (honest → IsMemoryOrShelf fault) × ReadCounted fault was is

-- Lines were written for pairs: over an honest shelf for those of the version's keys that have a
-- value at its last sequence and are to be shown, in order; or for none yet.
pub record PrintsVersion (honest : Type 0) (form : Form) (bounds : KeyBounds) (limit : Option ℕ)
    (v : Levels) (r : Result (Unit {0}) ScanFault) (old new : Option (List ℕ)) : Type 0 where
  pub front : List Pair
  pub written : (IsWrite r → ⊥) → Appends old new (pairs_text form front)
  pub shows : ((front ≡ []) × (IsWhole r → ⊥))
      ⊎ (honest → (pairs : List Pair) × IsScan v.last (all_entries (files v)) pairs
      × IsFront r front (shown bounds limit pairs))
