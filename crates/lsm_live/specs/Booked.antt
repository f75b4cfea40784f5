-- Live jobs: reserved, and neither installed nor cancelled yet (this project's rule).
use Rattle.std.specs.Prelude.{◌≡◌, ℕ, ◌<◌, List, [], ◌∷◌, ◌++◌, map, not, ◌==◌, if◌then◌else◌}
use Rattle.std.specs.List.{filter, flat_map}
use Rattle.lsm_codec.specs.Lists.{Has}
use Rattle.lsm_model.specs.Plain.{Live}
use Rattle.lsm_merge.specs.Work.{Work, job_of}

-- a live job, with the numbers that were drawn for its outputs, the latest last
pub record Booked : Type 0 where
  pub work : Work
  pub drawn : List ℕ

-- a job that was just reserved
abbrev pub new_booked : Work → Booked
new_booked work = record { work = work; drawn = [] }

-- some live job has the ticket
abbrev pub HasTicket : List Booked → ℕ → Type 0
HasTicket live ticket = (b : Booked) × Has live b × (b.work.ticket ≡ ticket)

abbrev pub tickets_of : List Booked → List ℕ
tickets_of live = map (λ b. b.work.ticket) live

-- each number is less than the ones after it
abbrev pub AreIncreasing : List ℕ → Type 0
AreIncreasing [] = Unit {0}
AreIncreasing (n ∷ ns) = ((m : ℕ) → Has ns m → n < m) × AreIncreasing ns

-- all live jobs but that of the ticket
abbrev pub without : ℕ → List Booked → List Booked
without ticket live = filter (λ b. not (b.work.ticket == ticket)) live

-- the job with one number more
abbrev pub drawing : ℕ → Booked → Booked
drawing number b = record b { drawn = b.drawn ++ number ∷ [] }

-- the number is booked under the ticket
abbrev pub booked : ℕ → ℕ → List Booked → List Booked
booked ticket number live = map (λ b. if b.work.ticket == ticket then drawing number b else b) live

-- all numbers that live jobs drew
abbrev pub drawn_numbers : List Booked → List ℕ
drawn_numbers live = flat_map (λ b. b.drawn) live

-- ---- as the plain machine has them

abbrev pub live_of : Booked → Live
live_of b = record { job = job_of b.work; drawn = b.drawn }

abbrev pub lives_of : List Booked → List Live
lives_of live = map live_of live
