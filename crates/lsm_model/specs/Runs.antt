-- Runs of the plain machine, and what reads give after them.
use Rattle.std.specs.Prelude.{◌≡◌, ℕ, ◌≤◌, List, [], ◌∷◌, ◌++◌}
use Rattle.lsm_codec.specs.Keys.{UserKey}
use Rattle.lsm_codec.specs.Lists.{Has}
use Rattle.lsm_codec.specs.Entries.{Entry, answer}
use Rattle.lsm_model.specs.Files.{OneEach, all_entries}
use Rattle.lsm_model.specs.Jobs.{Job}
use Rattle.lsm_model.specs.Plans.{Plan}
use Rattle.lsm_model.specs.Plain.{Cancels, Draws, Gathers, Ingests, Installs, IsReadable, Plain}
use Rattle.lsm_model.specs.Plain.{Releases, Reserves, Spends, TakesSnapshot}

pub data Event : Type 0 where
  Ingest : (entries : List Entry) → Event
  Snapshot : Event
  Release : (id : ℕ) → Event
  Reserve : (plan : Plan) → (job : Job) → Event
  Cancel : (ticket : ℕ) → Event
  Draw : (ticket : ℕ) → Event
  Install : (ticket : ℕ) → Event
  Gather : Event
  Spend : Event
  -- a read, a collect, or a refused call
  Nothing : Event

abbrev pub Step : Type 0 → Plain → Event → Plain → Type 0
Step honest s (Ingest es) t = Ingests s es t
Step honest s Snapshot t = TakesSnapshot s t
Step honest s (Release id) t = Releases s id t
Step honest s (Reserve plan job) t = Reserves honest s plan job t
Step honest s (Cancel ticket) t = Cancels s ticket t
Step honest s (Draw ticket) t = Draws s ticket t
Step honest s (Install ticket) t = Installs honest s ticket t
Step honest s Gather t = Gathers honest s t
Step honest s Spend t = Spends s t
Step honest s Nothing t = t ≡ s

abbrev pub Run : Type 0 → Plain → List Event → Plain → Type 0
Run honest s [] t = t ≡ s
Run honest s (e ∷ es) t = (mid : Plain) × Step honest s e mid × Run honest mid es t

-- all that was ever ingested, the latest first
abbrev pub ingested : List Event → List Entry → List Entry
ingested [] es = es
ingested (Ingest new ∷ events) es = ingested events (new ++ es)
ingested (Snapshot ∷ events) es = ingested events es
ingested (Release id ∷ events) es = ingested events es
ingested (Reserve plan job ∷ events) es = ingested events es
ingested (Cancel ticket ∷ events) es = ingested events es
ingested (Draw ticket ∷ events) es = ingested events es
ingested (Install ticket ∷ events) es = ingested events es
ingested (Gather ∷ events) es = ingested events es
ingested (Spend ∷ events) es = ingested events es
ingested (Nothing ∷ events) es = ingested events es

-- every read that is promised gives what it gives over the entries es
abbrev pub ReadsAs : Plain → List Entry → Type 0
ReadsAs s es = (k : UserKey) (q : ℕ) → IsReadable s q
    → answer (all_entries s.files) k q ≡ answer es k q

-- The entries es are a history of the store: none is above the last sequence, no two have one user
-- key, sequence and kind, and every read that is promised gives what it gives over them.
pub record Agrees (s : Plain) (es : List Entry) : Type 0 where
  pub upto : (e : Entry) → Has es e → e.seq ≤ s.last
  pub one : OneEach es
  pub reads : ReadsAs s es
