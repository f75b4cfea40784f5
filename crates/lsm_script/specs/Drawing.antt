-- Numbers that a merge draws from a state (this project's rule).
use Rattle.std.specs.Prelude.{◌≡◌, ℕ, suc, ◌-◌, ◌^◌, ◌<◌, List, [], ◌∷◌, map, Result, Ok, Err}
use Rattle.lsm_codec.specs.Lists.{Has}
use Rattle.lsm_live.specs.Booked.{HasTicket, booked}
use Rattle.lsm_merge.specs.NumberFault.{IsOfTicket, number_of}
use Rattle.lsm_merge.specs.declared.number_source.NumberFault.{NumberFault}
use Rattle.lsm_merge.specs.declared.number_source.NumberFault.TheVariants as numbers
use Rattle.lsm_state.specs.Held.{Held}
use Rattle.lsm_state.specs.declared.state_fault.StateFault.{StateFault}
use Rattle.lsm_state.specs.declared.state_fault.StateFault.TheVariants.{UnknownTicket, NumbersSpent}

-- the next number is booked under the ticket of a live job
pub record DrawsOne (ticket number : ℕ) (old new : Held) : Type 0 where
  pub was_live : HasTicket old.live ticket
  pub next : number ≡ old.next
  pub unspent : number ≡ 2 ^ 64 - 1 → ⊥
  pub is : new ≡ record old { live = booked ticket number old.live; next = suc number }

-- why none is: the ticket is not live; or the next number is the last one; or memory was refused
abbrev pub IsNumberless : ℕ → Held → NumberFault → Type 0
IsNumberless ticket h (numbers.UnknownTicket t) = (t ≡ ticket) × (HasTicket h.live ticket → ⊥)
IsNumberless ticket h numbers.NumbersSpent = h.next ≡ 2 ^ 64 - 1
IsNumberless ticket h numbers.OutOfMemory = Unit {0}

-- a number is drawn, or refused and nothing changed
abbrev pub GivesNumber : Held → ℕ → Held → Result ℕ NumberFault → Type 0
GivesNumber old ticket new (Ok n) = DrawsOne ticket n old new
GivesNumber old ticket new (Err e) = (new ≡ old) × IsNumberless ticket old e

-- these numbers were drawn under the ticket, the last first
abbrev pub AreDrawn : ℕ → List ℕ → Held → Held → Type 0
AreDrawn ticket [] old new = new ≡ old
AreDrawn ticket (n ∷ ns) old new =
    (mid : Held) × AreDrawn ticket ns old mid × DrawsOne ticket n mid new

-- these numbers were drawn, each under its ticket, the last first
abbrev pub ArePairsDrawn : List (ℕ × ℕ) → Held → Held → Type 0
ArePairsDrawn [] old new = new ≡ old
ArePairsDrawn (p ∷ ps) old new = (mid : Held) × ArePairsDrawn ps old mid × DrawsOne p.0 p.1 mid new

-- What a source of numbers has: a state, the numbers it gave and the numbers of its refusals, and
-- the tickets that it was asked for, each the last first.
pub record Source (X : Type 0) : Type 0 where
  pub state : X
  pub drew : List ℕ
  pub refused : List ℕ
  pub asked : List ℕ

-- what holds after an answer
abbrev pub After : Result ℕ NumberFault → ℕ → (List ℕ → List ℕ → List ℕ → Type 0) → List ℕ → List ℕ
    → List ℕ → Type 0
After (Ok n) ticket holds drew refused asked = holds (n ∷ drew) refused (ticket ∷ asked)
After (Err e) ticket holds drew refused asked =
    holds drew (number_of e ∷ refused) (ticket ∷ asked) × IsOfTicket e ticket

-- each answer keeps what holds
abbrev pub Keeps : {X : Type 0} → (X → ℕ → X → Result ℕ NumberFault → Type 0)
    → (X → List ℕ → List ℕ → List ℕ → Type 0) → Type 0
Keeps {X = X} gives holds = (x y : X) (t : ℕ) (r : Result ℕ NumberFault)
    (drew refused asked : List ℕ) → t < 2 ^ 64 → holds x drew refused asked → gives x t y r
    → After r t (holds y) drew refused asked

-- a source has a state, of which it holds, and each answer keeps it
pub record IsSource {X : Type 0} (holds : X → List ℕ → List ℕ → List ℕ → Type 0) (gives : X → ℕ → X
    → Result ℕ NumberFault → Type 0) (s : Source X) : Type 0 where
  pub fact : holds s.state s.drew s.refused s.asked
  pub keeps : Keeps gives holds

-- The state came from this one, by drawing just these numbers. Where it refused for an unknown
-- ticket, one for which it was asked is not live; where it had no number left, the next one is the
-- last.
pub record HasDrawn (start : Held) (s : Source Held) : Type 0 where
  pub pairs : List (ℕ × ℕ)
  pub drawn : ArePairsDrawn pairs start s.state
  pub numbers : map (λ p. p.1) pairs ≡ s.drew
  pub tickets : (p : ℕ × ℕ) → Has pairs p → Has s.asked p.0
  pub unknown : Has s.refused 45 → (t : ℕ) × Has s.asked t × (HasTicket s.state.live t → ⊥)
  pub spent : Has s.refused 46 → s.state.next ≡ 2 ^ 64 - 1

-- that, as a merge picks it
abbrev pub Drawn : Held → Held → List ℕ → List ℕ → List ℕ → Type 0
Drawn start h drew refused asked =
    HasDrawn start record { state = h; drew = drew; refused = refused; asked = asked }

-- the state's refusal of a number, as a source answers it
abbrev pub refusal_of : StateFault → NumberFault
refusal_of (UnknownTicket ticket) = numbers.UnknownTicket ticket
refusal_of NumbersSpent = numbers.NumbersSpent
refusal_of e = numbers.OutOfMemory
