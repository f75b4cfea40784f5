-- What a scan prints: this project's rule. Keys and values stand in a form: hex, or text.
use Rattle.std.specs.Prelude.{◌≡◌, ◌⊎◌, ℕ, ◌+◌, ◌≤◌, Bool, false, nat_le, List, [], ◌∷◌, ◌++◌}
use Rattle.std.specs.Prelude.{length, take, decimal, Option, None, Some, ⊤}
use Rattle.std.specs.List.{flat_map, filter}
use Rattle.std.specs.Io.KnownBytes.{Appends, Keeps}
use Rattle.lsm_codec.specs.Keys.{UserKey}
use Rattle.lsm_model.specs.Files.{all_entries}
use Rattle.lsm_model.specs.Scanning.{IsScan, Pair}
use Rattle.lsm_version.specs.Versions.{Levels, files}
use Rattle.lsm_text.specs.Spelling.{spelled}
use Rattle.lsm_text.specs.declared.form.Form.{Form}
use Rattle.lsm_requests.specs.KeyBounds.{is_within}
use Rattle.lsm_cmd_read.specs.JsonLines.{json_line}
use Rattle.lsm_requests.specs.declared.key_bounds.KeyBounds.{KeyBounds}
use Rattle.lsm_requests.specs.declared.scan_options.ScanOptions.{ScanOptions}
use Rattle.lsm_requests.specs.declared.scan_output.ScanOutput.{ScanOutput}
use Rattle.lsm_requests.specs.declared.scan_output.ScanOutput.TheVariants.{Pairs, Keys, Json, Count}

-- ---- the pairs that are asked for

-- those whose key is within the bounds
unfoldable pub within : KeyBounds → List Pair → List Pair
within bounds pairs = filter (λ p. is_within bounds p.0) pairs

-- the first of them, as many as the limit says
abbrev pub at_most : Option ℕ → List Pair → List Pair
at_most None pairs = pairs
at_most (Some n) pairs = take n pairs

abbrev pub asked_for : ScanOptions → List Pair → List Pair
asked_for options pairs = at_most options.limit (within options.bounds pairs)

-- ---- what is printed of them

module _ (form : Form) where
  -- `KEY=VALUE`
  unfoldable pub pair_line : Pair → List ℕ
  pair_line p = spelled form p.0 ++ (61 ∷ (spelled form p.1 ++ (10 ∷ [])))

  -- `KEY`
  unfoldable pub key_line : UserKey → List ℕ
  key_line key = spelled form key ++ (10 ∷ [])

  -- the line of a pair; nothing where they are counted
  abbrev pub line_of : ScanOutput → Pair → List ℕ
  line_of Pairs p = pair_line p
  line_of Keys p = key_line p.0
  line_of Json p = json_line p
  line_of Count p = []

  unfoldable pub lines_of : ScanOutput → List Pair → List ℕ
  lines_of output pairs = flat_map (line_of output) pairs

-- a line with how many there are, where they are counted
abbrev pub count_line : ScanOutput → ℕ → List ℕ
count_line Pairs n = []
count_line Keys n = []
count_line Json n = []
count_line Count n = decimal n ++ (10 ∷ [])

module _ (form : Form) where
  abbrev pub scan_text : ScanOptions → List Pair → List ℕ
  scan_text options pairs = lines_of form options.output (asked_for options pairs)
      ++ count_line options.output (length (asked_for options pairs))

  -- The lines of the first of the pairs that are asked for, and no other, were written.
  abbrev pub BeginsPrinting : ScanOptions → List Pair → Option (List ℕ) → Option (List ℕ) → Type 0
  BeginsPrinting options pairs old new =
      (front : List Pair) × (back : List Pair) × (asked_for options pairs ≡ front ++ back)
      × Appends old new (lines_of form options.output front)

  -- Of the user keys that have an answer at the last sequence, ascending, what is asked for was
  -- written.
  abbrev pub PrintsScan : ScanOptions → Levels → Option (List ℕ) → Option (List ℕ) → Type 0
  PrintsScan options v old new =
      (pairs : List Pair) × IsScan v.last (all_entries (files v)) pairs
      × Appends old new (scan_text options pairs)

  -- Lines were written for the first of them.
  abbrev pub BeginsScan : ScanOptions → Levels → Option (List ℕ) → Option (List ℕ) → Type 0
  BeginsScan options v old new =
      (pairs : List Pair) × IsScan v.last (all_entries (files v)) pairs
      × BeginsPrinting options pairs old new

  -- What a scan leaves that ends with a fault: nothing, or, over an honest shelf, lines for the
  -- first of them.
  abbrev pub LeavesScan : ScanOptions → Type 0 → Levels → Option (List ℕ) → Option (List ℕ) → Type 0
  LeavesScan options Honest v old new = Keeps old new ⊎ (Honest → BeginsScan options v old new)

-- ---- how the code prints them

-- there are as many as the limit says
abbrev pub is_full : Option ℕ → ℕ → Bool
is_full None n = false
is_full (Some limit) n = nat_le limit n

-- there are not more than it says
abbrev pub Fits : Option ℕ → ℕ → Type 0
Fits None n = ⊤
Fits (Some limit) n = n ≤ limit

module _ (form : Form) where
  -- The first of these pairs are passed, and those of `left` are not. Of the passed ones that are
  -- within the bounds the lines were written, and with them n have become m.
  pub record Passes (options : ScanOptions) (pairs left : List Pair) (n m : ℕ)
      (old new : Option (List ℕ)) : Type 0 where
    pub front : List Pair
    pub is : pairs ≡ front ++ left
    pub count : m ≡ n + length (within options.bounds front)
    pub lines : Appends old new (lines_of form options.output (within options.bounds front))

  -- that, and where there are no more, none that is left is within the bounds
  abbrev pub PassesNext : ScanOptions → (more : Bool) → (pairs left : List Pair) → (n m : ℕ)
      → Option (List ℕ) → Option (List ℕ) → Type 0
  PassesNext options more pairs left n m old new =
      Passes options pairs left n m old new × (more ≡ false → within options.bounds left ≡ [])

  -- the lines of the pairs that are asked for were written, so many
  abbrev pub PrintsLines : ScanOptions → List Pair → ℕ → Option (List ℕ) → Option (List ℕ) → Type 0
  PrintsLines options pairs n old new =
      (n ≡ length (asked_for options pairs))
      × Appends old new (lines_of form options.output (asked_for options pairs))
