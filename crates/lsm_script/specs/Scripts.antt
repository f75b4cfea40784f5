-- Lists of commands and their replies (this project's rule).
use Rattle.std.specs.Prelude.{◌≡◌, ◌==◌, Bool, false, List, [], ◌∷◌, MatchBool}
use Rattle.lsm_script.specs.CommandFault.{number_of}
use Rattle.lsm_script.specs.declared.command.Command.{Command}
use Rattle.lsm_script.specs.declared.reply.Reply.{Reply}
use Rattle.lsm_script.specs.declared.reply.Reply.TheVariants.{Refused}

-- a refusal for want of memory ends a list of commands
abbrev pub ends_list : Reply → Bool
ends_list (Refused refusal) = number_of refusal == 1
ends_list reply = false

-- From s to t each command is answered by a step, one after another, whatever the replies are.
abbrev pub AreSteps : {S : Type 0} → (Command → Reply → S → S → Type 0) → List Command → List Reply
    → S → S → Type 0
AreSteps step [] [] s t = t ≡ s
AreSteps step [] (r ∷ rs) s t = ⊥
AreSteps step (c ∷ cs) [] s t = ⊥
AreSteps {S = S} step (c ∷ cs) (r ∷ rs) s t = (mid : S) × step c r s mid × AreSteps step cs rs mid t

-- From s to t the commands are answered one after another, each by a step; the list ends with the
-- commands, or with the first reply that ends it.
abbrev pub AreReplies : {S : Type 0} → (Command → Reply → S → S → Type 0) → List Command
    → List Reply → S → S → Type 0
AreReplies step [] [] s t = t ≡ s
AreReplies step [] (r ∷ rs) s t = ⊥
AreReplies step (c ∷ cs) [] s t = ⊥
AreReplies {S = S} step (c ∷ cs) (r ∷ rs) s t =
    (mid : S) × step c r s mid × MatchBool (ends_list r) ((rs ≡ [])
    × (t ≡ mid)) (AreReplies step cs rs mid t)
