-- Conversations over a channel: requests, one after another, each with its answer, and the end
-- (docs/PROTOCOL.md, this project's rule). In each list the latest stands first.
use Rattle.std.specs.Prelude.{◌≡◌, ⊤, ℕ, Bool, true, false, List, [], ◌∷◌, ◌++◌}
use Rattle.lsm_frames.specs.Requests.{Asked, IsRequest}
use Rattle.lsm_wire.specs.Happenings.{Happening, Came, CameMisfit, CameNone, CameUnheld, Went}
use Rattle.lsm_wire.specs.Happenings.{IsCalledNoRequest, unanswered}

-- How what is asked is answered: where the conversation stood, where it stands then, and the frame
-- of the answer.
abbrev pub Answers : Type 0 → Type 1
Answers S = Asked → (before after : S) → (frame : List ℕ) → Type 0

-- ---- turns

-- a frame that came, without its length, and the one that was written
pub record Turn : Type 0 where
  pub came : List ℕ
  pub went : List ℕ

-- What came is a request, and what was written answers it.
abbrev pub IsTurn : {S : Type 0} → Answers S → Turn → S → S → Type 0
IsTurn answers turn before after =
    (asked : Asked) × IsRequest turn.came asked × answers asked before after turn.went

-- So was each, and each from where the one before it ended.
abbrev pub AreTurns : {S : Type 0} → Answers S → List Turn → S → S → Type 0
AreTurns answers [] s t = t ≡ s
AreTurns {S = S} answers (turn ∷ older) s t =
    (mid : S) × AreTurns answers older s mid × IsTurn answers turn mid t

-- of each turn, the frame came, and then the other one was taken whole
abbrev pub happened_in : List Turn → List Happening
happened_in [] = []
happened_in (turn ∷ older) = Went turn.went true ∷ Came turn.came ∷ happened_in older

-- ---- the end

-- what came is no request
abbrev pub IsNoRequest : Happening → Type 0
IsNoRequest (Came content) = (asked : Asked) → IsRequest content asked → ⊥
IsNoRequest CameMisfit = ⊤
IsNoRequest CameNone = ⊥
IsNoRequest CameUnheld = ⊥
IsNoRequest (Went bytes whole) = ⊥

-- Why a conversation ends, and what happens then.
pub data IsEnd {S : Type 0} (answers : Answers S) (s t : S) (was is : List Happening) : Type 0 where
  -- nothing more came
  Left : is ≡ CameNone ∷ was → t ≡ s → IsEnd answers s t was is
  -- what came is no request, and that was said
  Malformed : (came : Happening) → IsNoRequest came → IsCalledNoRequest (came ∷ was) is → t ≡ s
      → IsEnd answers s t was is
  -- there was no memory for what came, and that was said
  Unheld : (whole : Bool) → is ≡ Went unanswered whole ∷ CameUnheld ∷ was → t ≡ s
      → IsEnd answers s t was is
  -- there was no memory for the answer, and that was said; what was asked was done as some answer
  -- has it
  Unanswered : (turn : Turn) → IsTurn answers turn s t → (whole : Bool)
      → is ≡ Went unanswered whole ∷ Came turn.came ∷ was → IsEnd answers s t was is
  -- the answer was not taken whole
  Untaken : (turn : Turn) → IsTurn answers turn s t
      → is ≡ Went turn.went false ∷ Came turn.came ∷ was → IsEnd answers s t was is

-- One turn, and the conversation goes on; or its end.
abbrev pub IsTurnOrEnd : {S : Type 0} → Answers S → (goes_on : Bool) → (s t : S)
    → (was is : List Happening) → Type 0
IsTurnOrEnd answers true s t was is =
    (turn : Turn) × IsTurn answers turn s t × (is ≡ Went turn.went true ∷ Came turn.came ∷ was)
IsTurnOrEnd answers false s t was is = IsEnd answers s t was is

-- A whole conversation: turns, and then its end. That is all that happened.
pub record IsConversation {S : Type 0} (answers : Answers S) (s t : S) (was is : List Happening)
    : Type 0 where
  pub turns : List Turn
  pub mid : S
  pub answered : AreTurns answers turns s mid
  pub ended : IsEnd answers mid t (happened_in turns ++ was) is
