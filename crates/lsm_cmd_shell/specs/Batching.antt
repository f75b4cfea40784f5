-- A batch of several lines (this project's rule): the writes between `begin` and `commit`.
use Rattle.std.specs.Prelude.{◌≡◌, ◌⊎◌, ℕ, List, [], ◌∷◌, ◌++◌, codes, Option, Some, None}
use Rattle.lsm_batch.specs.Batches.{IsTooLarge}
use Rattle.lsm_batch.specs.declared.write.Write.{Write}
use Rattle.lsm_lines.specs.LastWrites.{KeepsLast}
use Rattle.lsm_text.specs.declared.form.Form.{Form}
use Rattle.lsm_script.specs.Steps.{IsStep, Stage}
use Rattle.lsm_script.specs.declared.command.Command.TheVariants.{Ingest}
use Rattle.lsm_script.specs.declared.command_fault.CommandFault.{CommandFault}
use Rattle.lsm_script.specs.declared.reply.Reply.{Reply}
use Rattle.lsm_script.specs.declared.reply.Reply.TheVariants.{Refused}
use Rattle.lsm_cmd_shell.specs.Reasoned.{IsTextOf}
use Rattle.lsm_cmd_shell.specs.Said.{Said, done, failed, saying}
use Rattle.lsm_cmd_shell.specs.declared.outcome.Outcome.{Outcome}
use Rattle.lsm_cmd_shell.specs.declared.outcome.Outcome.TheVariants.{Done, Failed}

-- ---- replies

-- memory was refused, and nothing was done
abbrev pub no_memory : Said
no_memory = failed (codes "refused 1 OutOfMemory\n")

-- a command was done, and memory was refused for its reply
abbrev pub unsaid : Said
unsaid = failed (codes "done, but there is no memory for the reply\n")

-- `begin` where a batch is begun
abbrev pub begun_twice : Said
begun_twice = failed (codes "bad line: a batch is begun already\n")

-- `commit` or `abort` where none is
abbrev pub none_begun : Said
none_begun = failed (codes "bad line: no batch is begun\n")

-- a batch has no room for one write more
abbrev pub too_large : Said
too_large = failed (codes "refused 39 TooLarge\n")

-- a reply of the state, which may be a refusal
abbrev pub outcome_of_reply : Reply → Outcome
outcome_of_reply (Refused fault) = Failed
outcome_of_reply reply = Done

-- this refusal was said
abbrev pub SaysRefusal : Form → CommandFault → Said → Type 0
SaysRefusal form fault said =
    (text : List ℕ) × IsTextOf form (Refused fault) text × (said ≡ failed text)

-- this reply was said, or that there is no memory for it
abbrev pub SaysReply : Form → Reply → Said → Type 0
SaysReply form reply said =
    ((text : List ℕ) × IsTextOf form reply text × (said ≡ saying text (outcome_of_reply reply)))
    ⊎ (said ≡ unsaid)

-- this was said of what was done, or that there is no memory for it
abbrev pub Says : Said → Said → Type 0
Says one said = (said ≡ one) ⊎ (said ≡ unsaid)

-- ---- where a conversation stands

-- its stage, and the writes of the batch that is begun, if one is
pub record Standing : Type 0 where
  pub stage : Stage
  pub begun : Option (List Write)

abbrev pub standing : Stage → Option (List Write) → Standing
standing stage begun = record { stage = stage; begun = begun }

-- ---- lines of a batch

-- `begin`
abbrev pub IsBegin : (old new : Option (List Write)) → Said → Type 0
IsBegin None new said = (new ≡ Some []) × (said ≡ done (codes "begun\n"))
IsBegin (Some ws) new said = (new ≡ Some ws) × (said ≡ begun_twice)

-- `abort`
abbrev pub IsAbort : (old new : Option (List Write)) → Said → Type 0
IsAbort None new said = (new ≡ None) × (said ≡ none_begun)
IsAbort (Some ws) new said = (new ≡ None) × (said ≡ done (codes "aborted\n"))

-- The write stands behind the others; or it does not, since with it a limit of a batch would be
-- passed, or for want of memory.
abbrev pub IsQueued : Write → (old new : List Write) → Said → Type 0
IsQueued w old new said =
    ((new ≡ old ++ w ∷ []) × (said ≡ done (codes "queued\n")))
    ⊎ ((new ≡ old) × (((said ≡ too_large) × IsTooLarge (old ++ w ∷ [])) ⊎ (said ≡ no_memory)))

-- a batch came in, or was refused; or memory was refused before that, and nothing was done
abbrev pub IsIngested : Type 0 → Form → (List Write → Type 0) → Said → Stage → Stage → Type 0
IsIngested honest form IsIt said s t =
    ((batch : List Write) × (r : Reply) × IsIt batch × IsStep honest (Ingest batch) r s t
    × SaysReply form r said)
    ⊎ ((said ≡ no_memory) × (t ≡ s))

-- `put` and `delete`: a batch of this write, or one more write of the batch that is begun
abbrev pub IsPutReply : Type 0 → Form → Write → Option (List Write) → Said → Standing → Standing
    → Type 0
IsPutReply honest form w None said s t =
    (t.begun ≡ None) × IsIngested honest form (λ batch. batch ≡ w ∷ []) said s.stage t.stage
IsPutReply honest form w (Some ws) said s t =
    (t.stage ≡ s.stage) × ((new : List Write) × (t.begun ≡ Some new) × IsQueued w ws new said)

-- `commit`: of each key that was written the last write, as one batch; none is begun then
abbrev pub IsCommitReply : Type 0 → Form → Option (List Write) → Said → Standing → Standing
    → Type 0
IsCommitReply honest form None said s t =
    (t.begun ≡ None) × (said ≡ none_begun) × (t.stage ≡ s.stage)
IsCommitReply honest form (Some ws) said s t =
    (t.begun ≡ None) × IsIngested honest form (KeepsLast ws) said s.stage t.stage
