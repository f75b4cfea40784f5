-- What a scan answers (this project's rule).
use Rattle.std.specs.Prelude.{◌≡◌, ◌≢◌, ◌⊎◌, ℕ, ◌≤◌, Bool, true, false, not, List, [], ◌∷◌, ◌++◌}
use Rattle.std.specs.Prelude.{length, map, Option, None, Some, MatchBool}
use Rattle.std.specs.List.{filter, flat_map}
use Rattle.lsm_codec.specs.Entries.{Entry, answer}
use Rattle.lsm_codec.specs.Keys.{UserKey, UserLe, user_le}
use Rattle.lsm_codec.specs.Lists.{Has}
use Rattle.lsm_frames.specs.Answers as frames
use Rattle.lsm_frames.specs.Requests.{Stretch}
use Rattle.lsm_model.specs.Scanning.{Pair, UsersAscend}
use Rattle.lsm_state.specs.Held.{Held}
use Rattle.lsm_state.specs.declared.state_fault.StateFault.{StateFault}
use Rattle.lsm_state.specs.declared.state_fault.StateFault.TheVariants.{TooLarge}
use Rattle.lsm_store.specs.Readers.{Learnt}
use Rattle.lsm_channels.specs.Answered.{done_frame}
use Rattle.lsm_channels.specs.Reading.{IsTooLong, IsUnread, IsUnseen}
use Rattle.lsm_channels.specs.Seen.{Sees}

-- ---- pairs of a range

-- Each user key from this one on that has an answer at the sequence, with it, and no other,
-- ascending.
pub record IsScanFrom (from : UserKey) (seq : ℕ) (es : List Entry) (pairs : List Pair)
    : Type 0 where
  pub right : (k : UserKey) (v : List ℕ) → Has pairs (k, v)
      → UserLe from k × (answer es k seq ≡ Some v)
  pub whole : (k : UserKey) (v : List ℕ) → UserLe from k → answer es k seq ≡ Some v
      → Has pairs (k, v)
  pub ascending : UsersAscend pairs

-- the key stands before the bound, if there is one
abbrev pub is_below : Option UserKey → UserKey → Bool
is_below None k = true
is_below (Some to) k = not (user_le to k)

-- the pairs before the bound
abbrev pub below : Option UserKey → List Pair → List Pair
below to pairs = filter (λ p. is_below to p.0) pairs

-- ---- a page of them

-- a pair as an answer has it
abbrev pub pair_of : Pair → frames.Pair
pair_of p = record { key = p.0; value = p.1 }

-- so many pairs were asked for and are there; or they have the bytes of a page
abbrev pub IsFull : ℕ → List frames.Pair → Type 0
IsFull limit pairs = ((limit ≢ 0) × (limit ≤ length pairs))
    ⊎ (65536 ≤ length (flat_map frames.pair_text pairs))

-- The first of the pairs that are to be shown. Without its last pair the page is not full. None is
-- left; or some are, and the page is full.
pub record IsPage (limit : ℕ) (all : List Pair) (ended : Bool) (pairs : List frames.Pair)
    : Type 0 where
  pub front : List Pair
  pub rest : List Pair
  pub parts : all ≡ front ++ rest
  pub shown : pairs ≡ map pair_of front
  pub most : (before : List frames.Pair) (p : frames.Pair) → pairs ≡ before ++ p ∷ []
      → IsFull limit before → ⊥
  pub left : MatchBool ended (rest ≡ []) ((rest ≢ []) × IsFull limit pairs)

-- The answer has the first pairs of the range, in all that had come in when the reader learnt it,
-- at one sequence.
pub record IsShown (s : Stretch) (history : List Entry) (seq : ℕ) (frame : List ℕ) : Type 0 where
  pub all : List Pair
  pub scan : IsScanFrom s.from seq history all
  pub ended : Bool
  pub pairs : List frames.Pair
  pub page : IsPage s.limit (below s.to all) ended pairs
  pub said : frame ≡ done_frame (frames.Shown ended pairs)

pub record IsScanned (Honest : Type 0) (keeps : Held → Type 0) (s : Stretch) (taken : List (ℕ
    × ℕ)) (before after : Learnt) (knew knows : List Entry) (frame : List ℕ) : Type 0 where
  pub seq : ℕ
  pub sees : Sees keeps s.when taken before after knew knows seq
  pub shown : Honest → IsShown s knows seq frame

-- ---- refusals

-- A pair that is to be shown, behind some that are no full page, makes an answer too long.
pub record IsLongPage (limit : ℕ) (all : List Pair) : Type 0 where
  pub front : List Pair
  pub pair : Pair
  pub rest : List Pair
  pub parts : all ≡ front ++ pair ∷ rest
  pub room : IsFull limit (map pair_of front) → ⊥
  pub long : IsTooLong (frames.Shown false (map pair_of front ++ pair_of pair ∷ []))

-- the range has such a pair, in all that had come in
abbrev pub IsUnshown : Stretch → List Entry → ℕ → Type 0
IsUnshown s history seq = (all : List Pair) × IsScanFrom s.from seq history all
    × IsLongPage s.limit (below s.to all)

-- Why a scan is refused: nothing is seen; or what is seen is not shown, as `TooLarge` over an
-- honest shelf only where no answer has room for a pair.
abbrev pub IsScanFault : Type 0 → (Held → Type 0) → Stretch → List (ℕ × ℕ) → (before after : Learnt)
    → (knew knows : List Entry) → StateFault → Type 0
IsScanFault Honest keeps s taken before after knew knows e =
    IsUnseen keeps s.when taken knew knows e
    ⊎ ((seq : ℕ) × Sees keeps s.when taken before after knew knows seq × IsUnread Honest e
    × (Honest → e ≡ TooLarge → IsUnshown s knows seq))
