-- The calls of a state, each as its contract has it, and chains of them (this project's rule).
use Rattle.std.specs.Prelude.{◌≡◌, ℕ, suc, List, [], ◌∷◌, ◌++◌, Option}
use Rattle.lsm_codec.specs.Entries.{answer}
use Rattle.lsm_codec.specs.Keys.{UserKey}
use Rattle.lsm_model.specs.Files.{all_entries}
use Rattle.lsm_model.specs.Plain.{Cancels, Draws, Releases, Spends, TakesSnapshot}
use Rattle.lsm_model.specs.Plain as machine
use Rattle.lsm_version.specs.Versions.{files}
use Rattle.lsm_batch.specs.declared.write.Write.{Write}
use Rattle.lsm_merge.specs.Work.{Done, Work}
use Rattle.lsm_slots.specs.Snapshots.{HasId}
use Rattle.lsm_state.specs.Gathering.{IsGathering}
use Rattle.lsm_state.specs.Held.{Held, plain}
use Rattle.lsm_state.specs.Ingesting.{entries_of, last_of}
use Rattle.lsm_state.specs.Installing.{IsInstalling}
use Rattle.lsm_state.specs.Reading.{IsSequence}
use Rattle.lsm_state.specs.Reserving.{IsReserving}
use Rattle.lsm_state.specs.declared.ingest.Ingested.{Ingested}
use Rattle.lsm_store.specs.Compacting.{IsCompactingStep}

-- A call under the lock, with what it was asked, and what it answered where that was Ok.
pub data Call : Type 0 where
  Ingest : (writes : List Write) → (answer : Ingested) → Call
  Get : (key : UserKey) → (at : Option ℕ) → (value : Option (List ℕ)) → Call
  Snapshot : (id : ℕ) → Call
  Release : (id : ℕ) → Call
  Reserve : (work : Work) → Call
  Draw : (ticket number : ℕ) → Call
  Install : (done : Done) → Call
  -- the newest files of level 0 became one, of this number
  Gather : (number : ℕ) → Call
  Cancel : (ticket : ℕ) → Call
  -- a collect, a pin that comes or goes, a reader that learns the version or asks for its tables
  Look : Call
  -- a call that was refused
  Refused : Call
  -- all that a worker of the store did in one taking of the lock
  Works : Call

-- A batch came in: as a file of level 0, under the next sequences, in front of the history.
pub record BringsIn (old new : Held) (ws : List Write) (r : Ingested) : Type 0 where
  pub event : machine.Ingests (plain old) (entries_of old ws) (plain new)
  pub history : new.history ≡ entries_of old ws ++ old.history
  pub first : r.first ≡ suc old.slots.version.last
  pub last : r.last ≡ last_of old ws
  pub last_is : new.slots.version.last ≡ last_of old ws

-- Nothing came in.
abbrev pub BringsNone : Held → Held → Type 0
BringsNone old new = new.history ≡ old.history

-- The call leads from this state to that one: which event of the plain machine it is, what came
-- into the history, and what was answered.
abbrev pub IsCall : Type 0 → Call → Held → Held → Type 0
IsCall honest (Ingest ws r) old new = BringsIn old new ws r
IsCall honest (Get key at value) old new = (new ≡ old) × ((seq : ℕ) × IsSequence old at seq
    × (honest → value ≡ answer (all_entries (files old.slots.version)) key seq))
IsCall honest (Snapshot id) old new = TakesSnapshot (plain old) (plain new)
    × (id ≡ old.snapshots.next) × BringsNone old new
IsCall honest (Release id) old new = Releases (plain old) id (plain new)
    × HasId old.snapshots.taken id × BringsNone old new
IsCall honest (Reserve work) old new = IsReserving honest old work new × BringsNone old new
IsCall honest (Draw ticket number) old new = Draws (plain old) ticket (plain new)
    × (number ≡ old.next) × BringsNone old new
IsCall honest (Install done) old new = IsInstalling honest old done.work.ticket new
    × BringsNone old new
IsCall honest (Gather number) old new = IsGathering honest old new × (number ≡ old.next)
    × BringsNone old new
IsCall honest (Cancel ticket) old new = Cancels (plain old) ticket (plain new)
    × BringsNone old new
IsCall honest Look old new = (plain new ≡ plain old) × BringsNone old new
IsCall honest Refused old new = Spends (plain old) (plain new) × BringsNone old new
IsCall honest Works old new = IsCompactingStep honest old new

-- one after another, each from where the one before it ended
abbrev pub Chain : {S : Type 0} → (Call → S → S → Type 0) → List Call → S → S → Type 0
Chain step [] s t = t ≡ s
Chain {S = S} step (c ∷ cs) s t = (mid : S) × step c s mid × Chain step cs mid t

-- The state was reached from the one that was found by calls, one after another.
abbrev pub IsReached : Type 0 → Held → Held → Type 0
IsReached honest found h = (calls : List Call) × Chain (IsCall honest) calls found h
