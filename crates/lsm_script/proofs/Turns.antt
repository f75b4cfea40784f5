-- A script goes on, one command after another.
use Rattle.std.proofs.Common.{◌≡◌, ℕ, suc, ◌+◌, ◌<◌, ◌≤◌, true, false, length, get_or, take, drop, List, [], ◌∷◌, ◌++◌, refl, sym, ◌∙◌, ap, subst}
use Rattle.std.proofs.lemmas.List.{take_all, take_more}
use Rattle.lsm_script.specs.Scripts.{AreReplies, ends_list}
use Rattle.lsm_script.specs.Steps.{IsStep, Stage}
use Rattle.lsm_script.specs.declared.command.Command.{Command}
use Rattle.lsm_script.specs.declared.reply.Reply.{Reply}
use Rattle.lsm_script.proofs.Chains.{GoesOn, all_there, last_one, one_more}
use Rattle.lsm_script.proofs.Elements.{parted_at}

-- nothing was asked yet
pub turn_none : (H : Type 0) (rs : List Reply) (s : Stage) → rs ≡ [] → GoesOn (IsStep H) [] rs s s
turn_none H rs s e = subst (λ (l : List Reply). GoesOn (IsStep H) [] l s s) (sym e) refl

pub turn_more : (H : Type 0) (cs : List Command) (i : ℕ) (c : Command) (rs rs' : List Reply) (r : Reply) (s t u : Stage) → i < length cs → c ≡ get_or cs i c → rs' ≡ rs ++ r ∷ []
    → GoesOn (IsStep H) (take i cs) rs s t → IsStep H c r t u → ends_list r ≡ false → GoesOn (IsStep H) (take (i + 1) cs) rs' s u
turn_more H cs i c rs rs' r s t u lt is more g k e = subst (λ (l : List Command). GoesOn (IsStep H) l rs' s u) (sym (take_more cs i c lt ∙ ap (λ (d : Command). take i cs ++ d ∷ []) (sym is)))
    (subst (λ (l : List Reply). GoesOn (IsStep H) (take i cs ++ c ∷ []) l s u) (sym more) (one_more (IsStep H) (take i cs) rs c r s t u g k e))

pub turn_last : (H : Type 0) (cs : List Command) (i : ℕ) (c : Command) (rs rs' : List Reply) (r : Reply) (s t u : Stage) → i < length cs → c ≡ get_or cs i c → rs' ≡ rs ++ r ∷ []
    → GoesOn (IsStep H) (take i cs) rs s t → IsStep H c r t u → ends_list r ≡ true → AreReplies (IsStep H) cs rs' s u
turn_last H cs i c rs rs' r s t u lt is more g k e = subst (λ (l : List Command). AreReplies (IsStep H) l rs' s u) (sym (parted_at cs i c lt is))
    (subst (λ (l : List Reply). AreReplies (IsStep H) (take i cs ++ c ∷ drop (suc i) cs) l s u) (sym more) (last_one (IsStep H) (take i cs) rs c (drop (suc i) cs) r s t u g k e))

pub turn_end : (H : Type 0) (cs : List Command) (i : ℕ) (rs : List Reply) (s t : Stage) → length cs ≤ i → GoesOn (IsStep H) (take i cs) rs s t → AreReplies (IsStep H) cs rs s t
turn_end H cs i rs s t past g = subst (λ (l : List Command). AreReplies (IsStep H) l rs s t) (take_all i cs past) (all_there (IsStep H) (take i cs) rs s t g)
