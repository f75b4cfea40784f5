-- A conversation: lines and the replies to them (this project's rule).
use Rattle.std.specs.Prelude.{◌≡◌, ◌≢◌, ◌⊎◌, ℕ, ◌<◌, Bool, true, false, ⊤, List, [], ◌∷◌, ◌++◌}
use Rattle.std.specs.Prelude.{length, codes, Option, Some, None, Result, Ok, Err}
use Rattle.std.specs.Io.KnownBytes.{Appends, IsAtEnd, Keeps}
use Rattle.lsm_model.specs.Files.{all_entries}
use Rattle.lsm_model.specs.Scanning.{IsScan, Pair}
use Rattle.lsm_shelf.specs.Told.{Told, Becomes}
use Rattle.lsm_table.specs.ReadFault.{IsMemoryOrShelf, ReadCounted}
use Rattle.lsm_table.specs.declared.read_fault.ReadFault.{ReadFault}
use Rattle.lsm_version.specs.Versions.{Levels, files}
use Rattle.lsm_batch.specs.declared.write.Write.{Write}
use Rattle.lsm_lines.specs.Reading.{Lined, TakesLine, most_of_line}
use Rattle.lsm_lines.specs.declared.line_reader.NextLine.{NextLine}
use Rattle.lsm_lines.specs.declared.line_reader.NextLine.TheVariants.{Line, TooLong, NoMemory, End}
use Rattle.lsm_state.specs.declared.state_fault.StateFault.TheVariants.{Read as ReadRefused}
use Rattle.lsm_text.specs.EntryList.{lines_of}
use Rattle.lsm_text.specs.declared.form.Form.{Form}
use Rattle.lsm_requests.specs.declared.key_bounds.KeyBounds.{KeyBounds}
use Rattle.lsm_script.specs.Steps.{IsStep, Stage}
use Rattle.lsm_script.specs.declared.command_fault.CommandFault.{CommandFault}
use Rattle.lsm_script.specs.declared.command_fault.CommandFault.TheVariants.{State}
use Rattle.lsm_script.specs.declared.reply.Reply.{Reply}
use Rattle.lsm_script.specs.declared.reply.Reply.TheVariants.{Refused}
use Rattle.lsm_opening.specs.Compactions.{installed_text}
use Rattle.lsm_cmd_shell.specs.Asks.{IsAsk}
use Rattle.lsm_cmd_shell.specs.Batching.{IsAbort, IsBegin, IsCommitReply, IsPutReply, Says}
use Rattle.lsm_cmd_shell.specs.Batching.{SaysRefusal, SaysReply, Standing, no_memory, standing}
use Rattle.lsm_cmd_shell.specs.MistakeText.{mistake_text}
use Rattle.lsm_cmd_shell.specs.Mistakes.{IsMistake}
use Rattle.lsm_cmd_shell.specs.Pairs.{pairs_text, shown}
use Rattle.lsm_cmd_shell.specs.Rounds.{IsCompacted, IsUncompacted}
use Rattle.lsm_cmd_shell.specs.Said.{IsTold, Said, StopsAtFirst, done, failed, outcome_of, saying}
use Rattle.lsm_cmd_shell.specs.Said.{texts_of}
use Rattle.lsm_cmd_shell.specs.Statistics.{statistics_text}
use Rattle.lsm_cmd_shell.specs.declared.ask.Ask.{Ask}
use Rattle.lsm_cmd_shell.specs.declared.ask.Ask.TheVariants.{Do, Put, Scan, Begin, Commit, Abort}
use Rattle.lsm_cmd_shell.specs.declared.ask.Ask.TheVariants.{Compact, Stats, Help}
use Rattle.lsm_cmd_shell.specs.declared.help.TheConstants.{HELP}
use Rattle.lsm_cmd_shell.specs.declared.mistake.Mistake.{Mistake}
use Rattle.lsm_cmd_shell.specs.declared.outcome.Outcome.{Outcome}
use Rattle.lsm_cmd_shell.specs.declared.outcome.Outcome.TheVariants.{Done, Failed}
use Rattle.lsm_cmd_shell.specs.declared.talk_fault.TalkFault.{TalkFault}
use Rattle.lsm_cmd_shell.specs.declared.talk_fault.TalkFault.TheVariants.{Read, Write as WriteFault}
use Rattle.lsm_cmd_shell.specs.declared.talk_fault.TalkFault.TheVariants.{LineFailed, BatchOpen}

-- ---- replies to lines that are no command of a script

-- no place of the line is told
abbrev pub bad_line : Said
bad_line = failed (codes "bad line: help tells what lines there are\n")

-- What is said to a line that asks for nothing: its mistake; or that where it has none that is
-- told, as where its first word is the name of no line.
abbrev pub IsBadLine : Form → List ℕ → Said → Type 0
IsBadLine form line said =
    ((m : Mistake) × IsMistake form line m × (said ≡ failed (mistake_text m)))
    ⊎ (((m : Mistake) → IsMistake form line m → ⊥) × (said ≡ bad_line))

-- the line is too long
abbrev pub long_line : Said
long_line = failed (codes "bad line: it has more than 8388608 bytes\n")

-- ---- a scan

-- the last line of a scan's reply: that it is whole; or why it is not, a table that could not be
-- read, over an honest shelf only since the shelf refused, or want of memory
abbrev pub StopsScan : Type 0 → Form → Said → Told → Told → Type 0
StopsScan honest form last was is =
    (last ≡ no_memory)
    ⊎ ((fault : ReadFault) × SaysRefusal form (State (ReadRefused fault)) last
    × (honest → IsMemoryOrShelf fault) × ReadCounted fault was is)

-- Of the keys of the version that have a value at its last sequence those that are asked for are
-- shown, in order.
abbrev pub ShowsAll : KeyBounds → Option ℕ → Levels → List Pair → Type 0
ShowsAll bounds limit v front =
    (pairs : List Pair) × IsScan v.last (all_entries (files v)) pairs
    × (front ≡ shown bounds limit pairs)

-- the first of them
abbrev pub ShowsSome : KeyBounds → Option ℕ → Levels → List Pair → Type 0
ShowsSome bounds limit v front =
    (pairs : List Pair) × (back : List Pair) × IsScan v.last (all_entries (files v)) pairs
    × (shown bounds limit pairs ≡ front ++ back)

-- Lines for pairs, and a last line, which tells how the scan ended. Nothing changed but what the
-- shelf was told.
pub record IsScanned (honest : Type 0) (form : Form) (bounds : KeyBounds) (limit : Option ℕ)
    (said : Said) (s t : Stage) : Type 0 where
  pub front : List Pair
  pub last : Said
  pub said_is : said ≡ saying (pairs_text form front ++ last.text) last.outcome
  pub shows :
      ((last ≡ done (codes "end\n")) × (honest → ShowsAll bounds limit s.state.slots.version front))
      ⊎ (StopsScan honest form last s.told t.told
      × ((front ≡ []) ⊎ (honest → ShowsSome bounds limit s.state.slots.version front)))
  pub told : Becomes s.told t.told
  pub same : t ≡ record s { told = t.told }

-- ---- all that is due

-- It was compacted, by so many compactions; or that was refused.
abbrev pub IsCompactReply : Type 0 → Form → Said → Stage → Stage → Type 0
IsCompactReply honest form said s t =
    ((n : ℕ) × IsCompacted honest n s t × Says (done (installed_text n)) said)
    ⊎ ((e : CommandFault) × IsUncompacted honest e s t × SaysReply form (Refused e) said)

-- ---- one line

-- What is said to who asks for this, and what it leaves. A command is a step of the state's own.
abbrev pub Obeys : Type 0 → Form → Ask → Said → Standing → Standing → Type 0
Obeys honest form (Do c) said s t =
    (t.begun ≡ s.begun) × ((r : Reply) × IsStep honest c r s.stage t.stage
    × SaysReply form r said)
Obeys honest form (Put w) said s t = IsPutReply honest form w s.begun said s t
Obeys honest form (Scan bounds limit) said s t =
    (t.begun ≡ s.begun) × IsScanned honest form bounds limit said s.stage t.stage
Obeys honest form Begin said s t = (t.stage ≡ s.stage) × IsBegin s.begun t.begun said
Obeys honest form Commit said s t = IsCommitReply honest form s.begun said s t
Obeys honest form Abort said s t = (t.stage ≡ s.stage) × IsAbort s.begun t.begun said
Obeys honest form Compact said s t =
    (t.begun ≡ s.begun) × IsCompactReply honest form said s.stage t.stage
Obeys honest form Stats said s t =
    (t ≡ s) × ((said ≡ done (statistics_text s.stage.state)) ⊎ (said ≡ no_memory))
Obeys honest form Help said s t = (t ≡ s) × (said ≡ done HELP.now)

-- What is said to a line, and what it leaves.
pub data IsReplied (honest : Type 0) (form : Form) (line : List ℕ) (said : Said) (s t : Standing)
    : Type 0 where
  -- what it asks for was done
  Obeyed : (a : Ask) → IsAsk form line a → Obeys honest form a said s t
      → IsReplied honest form line said s t
  -- nothing is asked for, nor is it `quit`
  Bad : ((a : Ask) → IsAsk form line a → ⊥) → line ≢ codes "quit" → IsBadLine form line said
      → t ≡ s → IsReplied honest form line said s t
  -- the line is too long
  Long : most_of_line < length line → said ≡ long_line → t ≡ s → IsReplied honest form line said s t
  -- memory was refused, and nothing was done
  Spent : said ≡ no_memory → t ≡ s → IsReplied honest form line said s t

-- ---- line after line

-- Lines were replied to, one after another, each where the one before it left off.
abbrev pub AreAnswered : {S : Type 0} → (List ℕ → Said → S → S → Type 0) → List (List ℕ)
    → List Said → S → S → Type 0
AreAnswered answers [] [] s t = t ≡ s
AreAnswered answers [] (one ∷ said) s t = ⊥
AreAnswered answers (line ∷ lines) [] s t = ⊥
AreAnswered {S = S} answers (line ∷ lines) (one ∷ said) s t =
    (mid : S) × answers line one s mid × AreAnswered answers lines said mid t

abbrev pub AreReplied : Type 0 → Form → List (List ℕ) → List Said → Standing → Standing → Type 0
AreReplied honest form lines said s t = AreAnswered (IsReplied honest form) lines said s t

-- behind the lines that were replied to stands `quit`, or nothing
abbrev pub IsEnd : List (List ℕ) → Type 0
IsEnd [] = ⊤
IsEnd (line ∷ lines) = line ≡ codes "quit"

-- a conversation went on up to its end: it does so where a line failed too, unless it bails
abbrev pub ComesToEnd : (bails : Bool) → Result (Unit {0}) TalkFault → Type 0
ComesToEnd bails (Ok well) = ⊤
ComesToEnd bails (Err BatchOpen) = ⊤
ComesToEnd bails (Err LineFailed) = bails ≡ false
ComesToEnd bails (Err Read) = ⊥
ComesToEnd bails (Err WriteFault) = ⊥

-- The lines that were replied to are the first of the input's; all up to its end, or to a `quit`,
-- unless the conversation was stopped.
abbrev pub AreFirst : (bails : Bool) → Result (Unit {0}) TalkFault → List (List ℕ) → List (List ℕ)
    → Type 0
AreFirst bails r lines all =
    (rest : List (List ℕ)) × (all ≡ lines ++ rest) × (ComesToEnd bails r → IsEnd rest)

-- the same where the input is known
abbrev pub AreFirstOf : (bails : Bool) → Result (Unit {0}) TalkFault → List (List ℕ)
    → Option (List ℕ) → Type 0
AreFirstOf bails r lines None = ⊤
AreFirstOf bails r lines (Some text) = AreFirst bails r lines (lines_of text)

-- What it comes to, by what was said, and by the batch that is begun at its end: it is well where
-- each line was done, and no batch is left open.
abbrev pub IsVerdict : List Said → Option (List Write) → Result (Unit {0}) TalkFault → Type 0
IsVerdict said begun (Ok well) = (outcome_of said ≡ Done) × (begun ≡ None)
IsVerdict said begun (Err BatchOpen) = (outcome_of said ≡ Done) × (begun ≢ None)
IsVerdict said begun (Err LineFailed) = outcome_of said ≡ Failed
IsVerdict said begun (Err Read) = ⊤
IsVerdict said begun (Err WriteFault) = ⊤

-- a write failed
abbrev pub IsWrite : {T : Type 0} → Result T TalkFault → Type 0
IsWrite (Ok well) = ⊥
IsWrite (Err WriteFault) = ⊤
IsWrite (Err fault) = ⊥

-- Just the first lines of the input were replied to, each by what it asks for, in their order; and
-- these replies were written, unless a write failed. If it bails none was behind one that failed.
pub record IsTalkOf {S : Type 0} (answers : List ℕ → Said → S → S → Type 0) (bails : Bool)
    (input : Option (List ℕ)) (r : Result (Unit {0}) TalkFault) (begun : Option (List Write))
    (s t : S) (old new : Option (List ℕ)) : Type 0 where
  pub lines : List (List ℕ)
  pub said : List Said
  pub replied : AreAnswered answers lines said s t
  pub first : AreFirstOf bails r lines input
  pub verdict : IsVerdict said begun r
  pub bailed : bails ≡ true → StopsAtFirst said
  pub written : (IsWrite r → ⊥) → Appends old new (texts_of said)

-- A conversation. No batch was begun before it, and one that is begun at its end is let go.
abbrev pub IsTalk : Type 0 → Form → (bails : Bool) → Option (List ℕ)
    → Result (Unit {0}) TalkFault → Stage → Stage → Option (List ℕ) → Option (List ℕ) → Type 0
IsTalk honest form bails input r s t old new =
    (begun : Option (List Write))
    × IsTalkOf (IsReplied honest form) bails input r begun (standing s None) (standing t begun)
    old new

-- ---- one turn

-- a line that is held and is not `quit`, or one that is not held
abbrev pub IsHeld : NextLine → List ℕ → Type 0
IsHeld Line held = held ≢ codes "quit"
IsHeld TooLong held = ⊤
IsHeld NoMemory held = ⊤
IsHeld End held = ⊥

-- the line that was read so
abbrev pub IsLineOf : NextLine → (held line : List ℕ) → Type 0
IsLineOf Line held line = line ≡ held
IsLineOf TooLong held line = most_of_line < length line
IsLineOf NoMemory held line = ⊤
IsLineOf End held line = ⊥

-- A line was taken of the input, and is to be replied to.
pub record IsToReply (old new : Lined) (next : NextLine) : Type 0 where
  pub line : List ℕ
  pub held : IsHeld next new.line
  pub is : IsLineOf next new.line line
  pub takes : TakesLine line old.left new.left

-- The next line was replied to; or the conversation ended, at the end of the input or by `quit`; or
-- it was stopped.
abbrev pub IsTurnOf : {S : Type 0} → (List ℕ → Said → S → S → Type 0)
    → Result (Option Outcome) TalkFault → Lined → Lined → S → S → Option (List ℕ)
    → Option (List ℕ) → Type 0
IsTurnOf answers (Ok (Some outcome)) in_old in_new s t old new =
    (line : List ℕ) × (said : Said) × TakesLine line in_old.left in_new.left
    × answers line said s t × IsTold said old new outcome
IsTurnOf answers (Ok None) in_old in_new s t old new =
    (IsAtEnd in_old.left ⊎ TakesLine (codes "quit") in_old.left in_new.left) × (t ≡ s)
    × Keeps old new
IsTurnOf answers (Err Read) in_old in_new s t old new = (t ≡ s) × Keeps old new
IsTurnOf answers (Err WriteFault) in_old in_new s t old new =
    (line : List ℕ) × (said : Said) × TakesLine line in_old.left in_new.left
    × answers line said s t
IsTurnOf answers (Err LineFailed) in_old in_new s t old new = ⊥
IsTurnOf answers (Err BatchOpen) in_old in_new s t old new = ⊥

-- What it comes to where nothing more is read: a line failed, or each was done.
abbrev pub IsEnded : Outcome → Option (List Write) → Result (Unit {0}) TalkFault → Type 0
IsEnded Failed begun r = r ≡ Err LineFailed
IsEnded Done None r = r ≡ Ok tt
IsEnded Done (Some writes) r = r ≡ Err BatchOpen

-- Whether a conversation goes on behind a turn, and then the outcome of its lines so far; or what
-- it comes to.
abbrev pub IsJudged : (bails : Bool) → Option (List Write) → Result (Option Outcome) TalkFault
    → (old new : Outcome) → Option (Result (Unit {0}) TalkFault) → Type 0
IsJudged bails begun (Ok (Some Done)) old new r = (r ≡ None) × (new ≡ old)
IsJudged true begun (Ok (Some Failed)) old new r = r ≡ Some (Err LineFailed)
IsJudged false begun (Ok (Some Failed)) old new r = (r ≡ None) × (new ≡ Failed)
IsJudged bails begun (Ok None) old new r =
    (end : Result (Unit {0}) TalkFault) × (r ≡ Some end) × IsEnded old begun end
IsJudged bails begun (Err fault) old new r = r ≡ Some (Err fault)
