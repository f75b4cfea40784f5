-- The requests, in the order of the table in docs/PROTOCOL.md (this project's rule).
use Rattle.std.specs.Prelude.{◌≡◌, ℕ, ◌^◌, ◌<◌, List, [], ◌∷◌, ◌++◌, length, Option, None, Some}
use Rattle.std.specs.Prelude.{IfSome}
use Rattle.std.specs.List.{flat_map, AllByRecursion}
use Rattle.lsm_frames.specs.declared.when.When.{When}
use Rattle.lsm_frames.specs.declared.when.When.TheVariants.{Now, Snapshot}
use Rattle.lsm_frames.specs.Texts.{number32, number64, text, optional}

-- what is written of a key: a value, or none for a deletion
pub record Written : Type 0 where
  pub key : List ℕ
  pub value : Option (List ℕ)

-- What a scan shows: keys from the first one on, below the other if there is one, at most so many
-- pairs, or, for 0, without limit.
pub record Stretch : Type 0 where
  pub when : When
  pub from : List ℕ
  pub to : Option (List ℕ)
  pub limit : ℕ

-- What is compacted: keys from the first one to the last, both included, or, where there is no last
-- one, all from the first one on.
pub record Between : Type 0 where
  pub from : List ℕ
  pub to : Option (List ℕ)

pub data Asked : Type 0 where
  Writes : List Written → Asked
  Reads : When → List (List ℕ) → Asked
  Scans : Stretch → Asked
  Snapshots : Asked
  Releases : ℕ → Asked
  Compacts : Asked
  CompactsRange : Between → Asked
  Collects : Asked
  Statistics : Asked

-- ---- their bytes

abbrev pub when_text : When → List ℕ
when_text Now = 0 ∷ []
when_text (Snapshot number) = 1 ∷ number64 number

abbrev pub written_parts : List ℕ → Option (List ℕ) → List ℕ
written_parts key None = 0 ∷ text key
written_parts key (Some value) = 1 ∷ text key ++ text value

abbrev pub written_text : Written → List ℕ
written_text w = written_parts w.key w.value

abbrev pub stretch_text : Stretch → List ℕ
stretch_text s = when_text s.when ++ (text s.from ++ (optional s.to ++ number32 s.limit))

abbrev pub between_text : Between → List ℕ
between_text b = text b.from ++ optional b.to

-- the content of a request's frame
unfoldable pub spelled : Asked → List ℕ
spelled (Writes ws) = 1 ∷ flat_map written_text ws
spelled (Reads when keys) = 2 ∷ when_text when ++ flat_map text keys
spelled (Scans s) = 3 ∷ stretch_text s
spelled Snapshots = 4 ∷ []
spelled (Releases number) = 5 ∷ number64 number
spelled Compacts = 6 ∷ []
spelled (CompactsRange b) = 6 ∷ between_text b
spelled Collects = 7 ∷ []
spelled Statistics = 8 ∷ []

-- ---- what can be spelled

abbrev pub FitsText : List ℕ → Type 0
FitsText bytes = length bytes < 2 ^ 32

abbrev pub FitsWhen : When → Type 0
FitsWhen Now = Unit {0}
FitsWhen (Snapshot number) = number < 2 ^ 64

abbrev pub FitsWritten : Written → Type 0
FitsWritten w = FitsText w.key × IfSome w.value FitsText

pub record FitsStretch (s : Stretch) : Type 0 where
  pub when : FitsWhen s.when
  pub from : FitsText s.from
  pub to : IfSome s.to FitsText
  pub limit : s.limit < 2 ^ 32

abbrev pub FitsBetween : Between → Type 0
FitsBetween b = FitsText b.from × IfSome b.to FitsText

-- at least one, and each fits
abbrev pub AreSome : {A : Type 0} → (A → Type 0) → List A → Type 0
AreSome Fits [] = ⊥
AreSome Fits (x ∷ xs) = Fits x × AllByRecursion Fits xs

abbrev pub Fits : Asked → Type 0
Fits (Writes ws) = AreSome FitsWritten ws
Fits (Reads when keys) = FitsWhen when × AreSome FitsText keys
Fits (Scans s) = FitsStretch s
Fits Snapshots = Unit {0}
Fits (Releases number) = number < 2 ^ 64
Fits Compacts = Unit {0}
Fits (CompactsRange b) = FitsBetween b
Fits Collects = Unit {0}
Fits Statistics = Unit {0}

-- These bytes are that request, all of them.
pub record IsRequest (bytes : List ℕ) (asked : Asked) : Type 0 where
  pub bytes_are : bytes ≡ spelled asked
  pub fits : Fits asked
