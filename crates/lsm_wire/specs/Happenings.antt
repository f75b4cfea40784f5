-- What happens at the server's end of a channel (docs/PROTOCOL.md, this project's rule).
use Rattle.std.specs.Prelude.{◌≡◌, ⊤, ◌⊎◌, ℕ, Bool, false, List, [], ◌∷◌}
use Rattle.lsm_frames.specs.Answers.{IsMalformed, answer_text}
use Rattle.lsm_frames.specs.Texts.{frame}
use Rattle.lsm_wire.specs.declared.incoming.Incoming.{Incoming}
use Rattle.lsm_wire.specs.declared.incoming.Incoming.TheVariants as incoming

pub data Happening : Type 0 where
  -- a frame came, with this behind its length
  Came : (content : List ℕ) → Happening
  -- a length came that no request has
  CameMisfit : Happening
  -- nothing more came, or not all of a frame
  CameNone : Happening
  -- a frame came for which there was no memory
  CameUnheld : Happening
  -- these bytes were written; all of them were taken, or not
  Went : (bytes : List ℕ) → (whole : Bool) → Happening

abbrev pub what_came : Incoming → Happening
what_came (incoming.Content content) = Came content.items
what_came incoming.Misfit = CameMisfit
what_came incoming.End = CameNone
what_came incoming.Unheld = CameUnheld

-- the content of a frame is one that may come
abbrev pub IsGiven : (List ℕ → Type 0) → Incoming → Type 0
IsGiven gives (incoming.Content content) = gives content.items
IsGiven gives incoming.Misfit = ⊤
IsGiven gives incoming.End = ⊤
IsGiven gives incoming.Unheld = ⊤

-- ---- what is said without a request

-- there was no memory for a request, or for its answer: a frame of the one byte 204
abbrev pub unanswered : List ℕ
unanswered = 1 ∷ 0 ∷ 0 ∷ 0 ∷ 204 ∷ []

-- the request is in none of the forms
abbrev pub malformed : List ℕ
malformed = frame (answer_text IsMalformed)

-- These bytes were written, and taken whole where the channel goes on.
abbrev pub IsWritten : (bytes : List ℕ) → (goes_on : Bool) → (was is : List Happening) → Type 0
IsWritten bytes goes_on was is = is ≡ Went bytes goes_on ∷ was

-- It was said that there was no memory, and the channel does not go on.
abbrev pub IsUnanswered : (goes_on : Bool) → (was is : List Happening) → Type 0
IsUnanswered goes_on was is = (goes_on ≡ false)
    × ((whole : Bool) × (is ≡ Went unanswered whole ∷ was))

-- It was said that what came is no request, or that there was no memory for saying so.
abbrev pub IsCalledNoRequest : (was is : List Happening) → Type 0
IsCalledNoRequest was is = (bytes : List ℕ) × (whole : Bool)
    × ((bytes ≡ malformed) ⊎ (bytes ≡ unanswered)) × (is ≡ Went bytes whole ∷ was)
