-- A conversation beside workers (this project's rule): a store lends its state for each turn, and
-- workers compact between two of them.
use Rattle.std.specs.Prelude.{◌≡◌, ℕ, Bool, List, Option, None, Result}
use Rattle.lsm_codec.specs.Entries.{Entry}
use Rattle.lsm_history.specs.History.{IsLater}
use Rattle.lsm_model.specs.Runs.{ReadsAs}
use Rattle.lsm_shelf.specs.Told.{Told}
use Rattle.lsm_state.specs.Held.{Held, plain}
use Rattle.lsm_batch.specs.declared.write.Write.{Write}
use Rattle.lsm_text.specs.declared.form.Form.{Form}
use Rattle.lsm_script.specs.Steps.{OnDesk, stage}
use Rattle.lsm_cmd_shell.specs.Batching.{Standing, standing}
use Rattle.lsm_cmd_shell.specs.Said.{Said}
use Rattle.lsm_cmd_shell.specs.Talk.{IsReplied, IsTalkOf}
use Rattle.lsm_cmd_shell.specs.declared.talk_fault.TalkFault.{TalkFault}

-- Where it stands between two turns: all that it knows to have come in, what its shelf was told,
-- its jobs and results, and the writes of the batch that is begun, if one is.
pub record Waiting : Type 0 where
  pub known : List Entry
  pub told : Told
  pub desk : OnDesk
  pub begun : Option (List Write)

abbrev pub waiting : List Entry → Told → OnDesk → Option (List Write) → Waiting
waiting known told desk begun = record { known = known; told = told; desk = desk; begun = begun }

-- the same on a state
abbrev pub on : Held → Waiting → Standing
on h w = standing (stage h w.desk w.told) w.begun

-- A state that is lent has all that was known to have come in; and over an honest shelf each read
-- of it that is promised gives what it gives over all that ever came in.
pub record IsLent (honest : Type 0) (known : List Entry) (h : Held) : Type 0 where
  pub later : IsLater h.history known
  pub reads : honest → ReadsAs (plain h) h.history

-- A line was replied to on a state that was lent, of which the lock's fact held, as without
-- workers; and all that had come in then is known.
pub record IsRepliedBeside (honest : Type 0) (keeps : Held → Type 0) (form : Form)
    (line : List ℕ) (said : Said) (s t : Waiting) : Type 0 where
  pub lent : Held
  pub back : Held
  pub kept : ∥ keeps lent ∥₁
  pub has : IsLent honest s.known lent
  pub replied : IsReplied honest form line said (on lent s) (on back t)
  pub known : t.known ≡ back.history

-- Such a conversation. No batch was begun before it, and one that is begun at its end is let go.
abbrev pub IsTalkBeside : Type 0 → (Held → Type 0) → Form → (bails : Bool) → Option (List ℕ)
    → Result (Unit {0}) TalkFault → Waiting → Waiting → Option (List ℕ) → Option (List ℕ) → Type 0
IsTalkBeside honest keeps form bails input r s t old new =
    (begun : Option (List Write))
    × IsTalkOf (IsRepliedBeside honest keeps form) bails input r begun s
    (record t { begun = begun }) old new

-- So it was; in the end its shelf was told this; and it was said of an output that had this much.
abbrev pub IsTalkedBeside : Type 0 → (Held → Type 0) → Form → (bails : Bool) → Option (List ℕ)
    → Result (Unit {0}) TalkFault → Waiting → Told → Option (List ℕ) → Type 0
IsTalkedBeside honest keeps form bails input r s is old =
    (known : List Entry) × (desk : OnDesk) × (new : Option (List ℕ))
    × IsTalkBeside honest keeps form bails input r s (waiting known is desk None) old new
