-- What the lock of a conversation keeps of a state: since it was found nothing was done to it that
-- no line of the input asks for (this project's rule).
use Rattle.std.specs.Prelude.{◌≡◌, ◌⊎◌, ⊤, ℕ, zero, suc, List, Option, None, Some}
use Rattle.lsm_codec.specs.Lists.{Has}
use Rattle.lsm_batch.specs.declared.write.Write.{Write}
use Rattle.lsm_lines.specs.Reading.{TakesLine}
use Rattle.lsm_text.specs.EntryList.{lines_of}
use Rattle.lsm_text.specs.declared.form.Form.{Form}
use Rattle.lsm_state.specs.Held.{Held}
use Rattle.lsm_store.specs.Compacting.{IsCompactingStep, IsSeated}
use Rattle.lsm_cmd_shell.specs.Asks.{IsAsk}
use Rattle.lsm_cmd_shell.specs.Batching.{Standing}
use Rattle.lsm_cmd_shell.specs.Said.{Said}
use Rattle.lsm_cmd_shell.specs.Talk.{IsReplied}
use Rattle.lsm_cmd_shell.specs.declared.ask.Ask.TheVariants.{Put}

-- ---- what an input asks for

-- It has this line. An input that is not known may have any.
abbrev pub IsLineIn : Option (List ℕ) → List ℕ → Type 0
IsLineIn None line = ⊤
IsLineIn (Some text) line = Has (lines_of text) line

-- A `put` or `delete` of it spells this write.
abbrev pub IsWrittenIn : Form → Option (List ℕ) → Write → Type 0
IsWrittenIn form input w = (line : List ℕ) × IsLineIn input line × IsAsk form line (Put w)

-- So it is of each write of the batch that is begun, if one is.
abbrev pub AreWrittenIn : Form → Option (List ℕ) → Option (List Write) → Type 0
AreWrittenIn form input None = ⊤
AreWrittenIn form input (Some ws) = (w : Write) → Has ws w → IsWrittenIn form input w

-- A line of the input was replied to; what it may commit is the input's too.
pub record IsReplyIn (honest : Type 0) (form : Form) (input : Option (List ℕ)) (s t : Standing)
    : Type 0 where
  pub line : List ℕ
  pub said : Said
  pub asked : IsLineIn input line
  pub queued : AreWrittenIn form input s.begun
  pub replied : IsReplied honest form line said s t

-- ---- which facts of a state may be kept

-- Each such reply keeps the fact.
abbrev pub IsKeptByReplies : Type 0 → Form → Option (List ℕ) → (Held → Type 0) → Type 0
IsKeptByReplies honest form input keeps = (s t : Standing) → IsReplyIn honest form input s t
    → keeps s.stage.state → keeps t.stage.state

-- The reply to this line keeps it, where this batch is begun.
abbrev pub IsKeptByReply : Type 0 → Form → List ℕ → Option (List Write) → (Held → Type 0) → Type 0
IsKeptByReply honest form line begun keeps = (said : Said) (s t : Standing) → s.begun ≡ begun
    → IsReplied honest form line said s t → keeps s.stage.state → keeps t.stage.state

-- So does the reply to the next line of what is left of an input.
abbrev pub IsKeptByNext : Type 0 → Form → Option (List ℕ) → Option (List Write) → (Held → Type 0)
    → Type 0
IsKeptByNext honest form left begun keeps = (line : List ℕ) (then : Option (List ℕ))
    → TakesLine line left then → IsKeptByReply honest form line begun keeps

-- ---- the fact of a conversation

-- One step: a worker's, by which nothing comes in, and no snapshot is taken or given up; or the
-- reply to a line of the input.
abbrev pub IsStepOf : Type 0 → Form → Option (List ℕ) → Held → Held → Type 0
IsStepOf honest form input was is =
    IsCompactingStep honest was is
    ⊎ ((s : Standing) × (t : Standing) × (s.stage.state ≡ was) × (t.stage.state ≡ is)
    × IsReplyIn honest form input s t)

-- So many, one after another, from the state that was put behind the lock.
abbrev pub AreStepsOf : Type 0 → Form → Option (List ℕ) → ℕ → (found h : Held) → Type 0
AreStepsOf honest form input zero found h = IsSeated found h
AreStepsOf honest form input (suc n) found h =
    (mid : Held) × AreStepsOf honest form input n found mid × IsStepOf honest form input mid h

-- The state came from the one that was found by such steps: each batch that came in since, and each
-- snapshot that was taken or given up, is one that a line of the input asks for.
abbrev pub HasComeTo : Type 0 → Form → Option (List ℕ) → (found h : Held) → Type 0
HasComeTo honest form input found h = (n : ℕ) × AreStepsOf honest form input n found h
