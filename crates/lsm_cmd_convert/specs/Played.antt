-- What a script is answered, and why it is refused (this project's rule).
use Rattle.std.specs.Prelude.{◌≡◌, ◌≢◌, ℕ, ◌<◌, ◌⊎◌, ⊤, Bool, true, List, [], ◌++◌, length, codes}
use Rattle.std.specs.Prelude.{decimal, Option, Some, IfSome}
use Rattle.std.specs.Io.KnownBytes.{Appends, Keeps}
use Rattle.lsm_codec.specs.Lists.{Has}
use Rattle.lsm_shelf.specs.Told.{Place, Told, fresh}
use Rattle.lsm_shelf.specs.declared.shelf_fault.ShelfFault.{ShelfFault}
use Rattle.lsm_journal.specs.Sending.{IsCreateRefusal}
use Rattle.lsm_state.specs.Held.{Held}
use Rattle.lsm_script.specs.History.{History, IsAnswered}
use Rattle.lsm_script.specs.Scripts.{AreReplies, ends_list}
use Rattle.lsm_script.specs.Steps.{IsStep, Stage, stage_of}
use Rattle.lsm_script.specs.declared.command.Command.{Command}
use Rattle.lsm_script.specs.declared.reply.Reply.{Reply}
use Rattle.lsm_opening.specs.Parts.{plain}
use Rattle.lsm_opening.specs.Starting.{IsNewWith}
use Rattle.lsm_opening.specs.WriterFault.{of_shelf}
use Rattle.lsm_opening.specs.declared.faults.writer_fault.WriterFault.{WriterFault}
use Rattle.lsm_opening.specs.declared.faults.writer_fault.WriterFault.TheVariants.{OutOfMemory}
use Rattle.lsm_opening.specs.declared.faults.writer_fault.WriterFault.TheVariants.{Read, Write}
use Rattle.lsm_opening.specs.declared.faults.writer_fault.WriterFault.TheVariants.{BadLine}
use Rattle.lsm_opening.specs.declared.faults.writer_fault.WriterFault.TheVariants.{Directory}
use Rattle.lsm_opening.specs.declared.faults.writer_fault.WriterFault.TheVariants.{LostCurrent}
use Rattle.lsm_opening.specs.declared.faults.writer_fault.WriterFault.TheVariants.{UnflushedLog}
use Rattle.lsm_opening.specs.declared.faults.writer_fault.WriterFault.TheVariants.{State}
use Rattle.lsm_script.specs.CommandLine.{IsFirstBadLine, IsScript}
use Rattle.lsm_script.specs.ReplyText.{replies_text}

-- a database into which nothing ever came
abbrev pub nothing : History
nothing = record { entries = []; last = 0; snapshots = [] }

-- The commands are answered so by a database that was just created with plain options on a shelf to
-- which this had been told: each by a step of its state; and as the history from nothing on says.
pub record ArePlayed (honest : Type 0) (commands : List Command) (replies : List Reply) (was : Told)
    : Type 0 where
  pub before : Held
  pub mid : Told
  pub created : IsNewWith plain 1 before was mid
  pub after : Stage
  pub steps : AreReplies (IsStep honest) commands replies (stage_of before mid) after
  pub history : History
  pub answered : AreReplies (IsAnswered honest) commands replies nothing history

-- a new shelf in memory, which is honest
abbrev pub ArePlayedInMemory : List Command → List Reply → Type 0
ArePlayedInMemory commands replies = (place : Place) × ArePlayed ⊤ commands replies (fresh place)

-- why there is no database on such a shelf
abbrev pub IsUncreatedInMemory : WriterFault → Type 0
IsUncreatedInMemory e = (place : Place) × (fault : ShelfFault) × (is : Told) × (e ≡ of_shelf fault)
    × IsCreateRefusal fault (fresh place) is

-- memory ran out within a command, whose reply is then the last
abbrev pub IsCutShort : List Reply → Type 0
IsCutShort replies = (reply : Reply) × Has replies reply × (ends_list reply ≡ true)

-- The text is a script, these are its replies, and just they were written.
pub record IsPrinted (text : List ℕ) (replies : List Reply) (old new : Option (List ℕ))
    : Type 0 where
  pub commands : List Command
  pub spelled : IsScript text commands
  pub played : ArePlayedInMemory commands replies
  pub written : Appends old new (replies_text replies)

-- every command was answered
abbrev pub IsScriptDone : List ℕ → Option (List ℕ) → Option (List ℕ) → Type 0
IsScriptDone text old new = (replies : List Reply) × IsPrinted text replies old new
    × (IsCutShort replies → ⊥)

-- memory ran out within a command
abbrev pub IsCut : List ℕ → Option (List ℕ) → Option (List ℕ) → Type 0
IsCut text old new = (replies : List Reply) × IsPrinted text replies old new × IsCutShort replies

-- replies were printed
abbrev pub IsEnded : List ℕ → ℕ → Option (List ℕ) → Option (List ℕ) → Type 0
IsEnded text status old new = ((status ≡ 0) × IsScriptDone text old new)
    ⊎ ((status ≡ 1) × IsCut text old new)

-- What a fault says of a text that is no script. Want of memory says nothing of it.
abbrev pub IsScriptTextFault : List ℕ → WriterFault → Type 0
IsScriptTextFault text OutOfMemory = ⊤
IsScriptTextFault text Read = ⊥
IsScriptTextFault text Write = ⊥
IsScriptTextFault text (BadLine i fault) = IsFirstBadLine text i
IsScriptTextFault text (Directory fault) = ⊥
IsScriptTextFault text (LostCurrent highest) = ⊥
IsScriptTextFault text (UnflushedLog n) = ⊥
IsScriptTextFault text (State fault) = ⊥

-- why a text is not read: the last read of its stream failed, or it has more than 64 MiB
abbrev pub IsInputUnread : List ℕ → Bool → Type 0
IsInputUnread text failed = (failed ≡ true) ⊎ (67108864 < length text)

-- What a fault says of an input: its text is no script, or is not read.
abbrev pub IsInputFault : List ℕ → Bool → WriterFault → Type 0
IsInputFault text failed e = IsScriptTextFault text e ⊎ ((e ≡ Read) × IsInputUnread text failed)

-- What a fault says of a script: no database was created; or a write failed, of its replies. Want
-- of memory says nothing.
abbrev pub IsPlayFault : List Command → WriterFault → Type 0
IsPlayFault commands OutOfMemory = ⊤
IsPlayFault commands Read = ⊥
IsPlayFault commands Write = (replies : List Reply) × ArePlayedInMemory commands replies
IsPlayFault commands (BadLine i fault) = ⊥
IsPlayFault commands (Directory fault) = IsUncreatedInMemory (Directory fault)
IsPlayFault commands (LostCurrent highest) = ⊥
IsPlayFault commands (UnflushedLog n) = ⊥
IsPlayFault commands (State fault) = ⊥

-- What a fault says: the text is no script, or is not read; or it is one.
abbrev pub IsScriptFault : List ℕ → Bool → WriterFault → Type 0
IsScriptFault text failed e = IsInputFault text failed e
    ⊎ ((commands : List Command) × IsScript text commands × IsPlayFault commands e)

-- Why a script ends with status 1: memory ran out within a command; or a fault, and unless a write
-- failed nothing was written. `failed` says whether the last read of the input failed.
abbrev pub IsScriptRefused : List ℕ → Bool → Option (List ℕ) → Option (List ℕ) → Type 0
IsScriptRefused text failed old new =
    IsCut text old new ⊎ ((fault : WriterFault) × IsScriptFault text failed fault
    × (fault ≢ Write → Keeps old new))

-- ---- of an input that words name

-- every command of the script was answered
abbrev pub IsPlayed : Option (List ℕ) → (old new : Option (List ℕ)) → Type 0
IsPlayed text old new = IfSome text (λ t. IsScriptDone t old new)

-- the file could not be opened, and nothing was written; or the script is refused
abbrev pub IsUnplayed : Option (List ℕ) → (old new : Option (List ℕ)) → Type 0
IsUnplayed text old new = Keeps old new
    ⊎ IfSome text (λ t. (failed : Bool) × IsScriptRefused t failed old new)

-- ---- what is told of a fault

-- what a fault may mean of the input: a line of its own, or nothing
abbrev pub meaning : WriterFault → Option (List ℕ)
meaning OutOfMemory = Some []
meaning Read = Some (codes "the input could not be read, or has more than 64 MiB\n")
meaning Write = Some []
meaning (BadLine i fault) = Some (
    codes "line "
    ++ (decimal i ++ codes " is none of the commands that `lsm script --help` lists, with one space between words, and keys and values in hex; `.` stands for no bytes\n"))
meaning (Directory fault) = Some []
meaning (LostCurrent highest) = Some []
meaning (UnflushedLog n) = Some []
meaning (State fault) = Some []
