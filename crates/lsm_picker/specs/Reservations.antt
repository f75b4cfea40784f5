-- Live jobs, as far as a choice has to know them, and what conflicts with them (this project's
-- rule; LevelDB has one job at a time).
use Rattle.std.specs.Prelude.{◌≡◌, ℕ, ◌≤◌, Bool, true, false, ◌&&◌, ◌||◌, ◌==◌, List, Option, Some}
use Rattle.std.specs.Prelude.{None, map, ◌⊎◌}
use Rattle.std.specs.List.{list_any}
use Rattle.lsm_codec.specs.Keys.{UserKey, user_le}
use Rattle.lsm_codec.specs.Lists.{Has}
use Rattle.lsm_table.specs.Registry.{Table}
use Rattle.lsm_model.specs.Jobs.{Job}
use Rattle.lsm_picker.specs.TablePlans.{TablePlan}

-- a live job: its ticket, its level, the numbers of its inputs, and its hull
pub record Reserved : Type 0 where
  pub ticket : ℕ
  pub level : ℕ
  pub inputs : List ℕ
  pub low : UserKey
  pub high : UserKey

-- what is known of a job
abbrev pub reserved_of : Job → Reserved
reserved_of job = record {
  ticket = job.ticket;
  level = job.level;
  inputs = map (λ F.
      F.number) job.inputs;
  low = job.low;
  high = job.high;
}

-- the number is that of an input
abbrev pub has_input : Reserved → ℕ → Bool
has_input r number = list_any (λ n. n == number) r.inputs

-- the table is an input of a live job
abbrev pub is_taken : List Reserved → Table → Bool
is_taken rs t = list_any (λ r. has_input r t.number) rs

-- some of the tables is an input of that job
abbrev pub shares : List Table → Reserved → Bool
shares ts r = list_any (λ t. has_input r t.number) ts

-- the plan and the job have one output level, and hulls that meet
abbrev pub hulls_meet : TablePlan → Reserved → Bool
hulls_meet p r = p.level == r.level && (user_le p.low r.high && user_le r.low p.high)

-- the plan and the job share an input, or have one output level and hulls that meet
abbrev pub conflicts : TablePlan → Reserved → Bool
conflicts p r = hulls_meet p r || (shares p.upper r || shares p.lower r)

-- no live job conflicts with the plan
abbrev pub IsClear : TablePlan → List Reserved → Type 0
IsClear p rs = (r : Reserved) → Has rs r → conflicts p r ≡ false

-- some live job conflicts with the plan
abbrev pub IsHeldUp : TablePlan → List Reserved → Type 0
IsHeldUp p rs = (r : Reserved) × Has rs r × (conflicts p r ≡ true)

-- the least ticket of the live jobs that conflict with the plan
pub record IsLeastConflict (p : TablePlan) (rs : List Reserved) (ticket : ℕ) : Type 0 where
  pub job : Reserved
  pub live : Has rs job
  pub in_conflict : conflicts p job ≡ true
  pub its : job.ticket ≡ ticket
  pub least : (r : Reserved) → Has rs r → conflicts p r ≡ true → ticket ≤ r.ticket

-- the lesser of the ticket and another one, if there is one
abbrev pub IsLesserTicket : Option ℕ → ℕ → ℕ → Type 0
IsLesserTicket None ticket least = least ≡ ticket
IsLesserTicket (Some other) ticket least =
    ((least ≡ other) × (other ≤ ticket)) ⊎ ((least ≡ ticket) × (ticket ≤ other))
