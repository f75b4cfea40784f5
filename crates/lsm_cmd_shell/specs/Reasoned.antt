-- What is printed of a reply, with the system's reason where there is one (this project's rule).
use Rattle.std.specs.Prelude.{◌≡◌, ◌≢◌, ◌⊎◌, ℕ, List, [], ◌∷◌, ◌++◌, All, codes}
use Rattle.lsm_merge.specs.MergeFault as merge
use Rattle.lsm_merge.specs.declared.merge_fault.MergeFault.{MergeFault}
use Rattle.lsm_merge.specs.declared.merge_fault.MergeFault.TheVariants.{OutOfMemory, ReadFailed}
use Rattle.lsm_merge.specs.declared.merge_fault.MergeFault.TheVariants.{PutFailed, UnknownTicket}
use Rattle.lsm_merge.specs.declared.merge_fault.MergeFault.TheVariants.{NumbersSpent}
use Rattle.lsm_state.specs.StateFault as state
use Rattle.lsm_text.specs.declared.form.Form.{Form}
use Rattle.lsm_script.specs.RefusalText.{refused_text}
use Rattle.lsm_script.specs.ReplyText.{reply_text}
use Rattle.lsm_script.specs.declared.command_fault.CommandFault.{CommandFault}
use Rattle.lsm_script.specs.declared.command_fault.CommandFault.TheVariants.{State, Merge}
use Rattle.lsm_script.specs.declared.reply.Reply.{Reply}
use Rattle.lsm_script.specs.declared.reply.Reply.TheVariants.{Refused}

-- the number of what made a merge fail
abbrev pub cause_of_merge : MergeFault → ℕ
cause_of_merge OutOfMemory = 1
cause_of_merge (ReadFailed number fault) = merge.input_number fault
cause_of_merge (PutFailed number fault) = merge.output_number fault
cause_of_merge (UnknownTicket ticket) = 45
cause_of_merge NumbersSpent = 46

-- the number of a refusal; of a merge that of what made it fail
abbrev pub cause_of : CommandFault → ℕ
cause_of (State fault) = state.number_of fault
cause_of (Merge fault) = cause_of_merge fault

-- It may come from what the system answered: `9 Device` and `10 Missing`, and a merge that failed
-- by one of these.
abbrev pub IsOfSystem : CommandFault → Type 0
IsOfSystem fault = (cause_of fault ≡ 9) ⊎ (cause_of fault ≡ 10)

-- `refused N Name ..: REASON`, on one line
abbrev pub reasoned_text : CommandFault → List ℕ → List ℕ
reasoned_text fault reason = refused_text fault ++ (codes ": " ++ (reason ++ (10 ∷ [])))

-- such a refusal, with its reason behind it, which is for people
abbrev pub IsReasoned : Reply → List ℕ → Type 0
IsReasoned (Refused fault) text = IsOfSystem fault
    × ((reason : List ℕ) × All (λ c. c ≢ 10) reason × (text ≡ reasoned_text fault reason))
IsReasoned reply text = ⊥

-- what is printed of a reply
abbrev pub IsTextOf : Form → Reply → List ℕ → Type 0
IsTextOf form reply text = (text ≡ reply_text form reply) ⊎ IsReasoned reply text
