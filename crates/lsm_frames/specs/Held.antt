-- What an answer that grows has so far.
use Rattle.std.specs.Prelude.{◌≡◌, ℕ, ◌+◌, ◌≤◌, List, [], ◌∷◌, ◌++◌, length, drop, unwrap_or}
use Rattle.std.specs.List.{flat_map, AllByRecursion}
use Rattle.lsm_frames.specs.declared.length.TheConstants.{MOST_ANSWER}
use Rattle.lsm_frames.specs.Requests.{FitsText}
use Rattle.lsm_frames.specs.Answers.{Pair}
use Rattle.lsm_frames.specs.Reading.{Read, items_in}

-- room for the length, and a zero for the status; or for the flag of a scan besides
abbrev pub values_head : List ℕ
values_head = 0 ∷ 0 ∷ 0 ∷ 0 ∷ 0 ∷ []

abbrev pub pairs_head : List ℕ
pairs_head = 0 ∷ 0 ∷ 0 ∷ 0 ∷ 0 ∷ 0 ∷ []

-- the fields behind so many bytes of a frame
unfoldable pub held : {A : Type 0} → Read A → ℕ → List ℕ → List A
held read skipped bytes = unwrap_or (items_in read (drop skipped bytes)) []

-- The bytes are just these fields behind a head, and no longer than an answer's frame.
pub record Holds {A : Type 0} (spell : A → List ℕ) (FitsOne : A
    → Type 0) (head : List ℕ) (xs : List A) (bytes : List ℕ) : Type 0 where
  pub parts : bytes ≡ head ++ flat_map spell xs
  pub fits : AllByRecursion FitsOne xs
  pub short : length bytes ≤ MOST_ANSWER + 4

abbrev pub FitsPair : Pair → Type 0
FitsPair p = FitsText p.key × FitsText p.value
