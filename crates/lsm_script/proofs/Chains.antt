-- Replies so far, one command after another.
use Rattle.std.proofs.Common.{◌≡◌, Bool, true, false, List, [], ◌∷◌, ◌++◌, refl, sym, subst}
use Rattle.std.specs.Prelude.{MatchBool}
use Rattle.lsm_script.specs.Scripts.{AreReplies, ends_list}
use Rattle.lsm_script.specs.declared.command.Command.{Command}
use Rattle.lsm_script.specs.declared.reply.Reply.{Reply}

-- the commands are answered one after another, and no reply ends the list
abbrev pub GoesOn : {S : Type 0} → (Command → Reply → S → S → Type 0) → List Command → List Reply → S → S → Type 0
GoesOn step [] [] s t = t ≡ s
GoesOn step [] (r ∷ rs) s t = ⊥
GoesOn step (c ∷ cs) [] s t = ⊥
GoesOn {S = S} step (c ∷ cs) (r ∷ rs) s t = (mid : S) × step c r s mid × (ends_list r ≡ false) × GoesOn step cs rs mid t

abbrev pub no_reply : List Reply
no_reply = []

pub one_more : {S : Type 0} (step : Command → Reply → S → S → Type 0) (cs : List Command) (rs : List Reply) (c : Command) (r : Reply) (s t u : S) → GoesOn step cs rs s t → step c r t u → ends_list r ≡ false
    → GoesOn step (cs ++ c ∷ []) (rs ++ r ∷ []) s u
one_more step [] [] c r s t u g k e = (u, subst (λ x. step c r x u) g k, e, refl)
one_more step [] (q ∷ rs) c r s t u g k e = absurd g
one_more step (d ∷ cs) [] c r s t u g k e = absurd g
one_more step (d ∷ cs) (q ∷ rs) c r s t u g k e = (g.0, g.1, g.2, one_more step cs rs c r g.0 t u g.3 k e)

pub all_there : {S : Type 0} (step : Command → Reply → S → S → Type 0) (cs : List Command) (rs : List Reply) (s t : S) → GoesOn step cs rs s t → AreReplies step cs rs s t
all_there step [] [] s t g = g
all_there step [] (q ∷ rs) s t g = absurd g
all_there step (d ∷ cs) [] s t g = absurd g
all_there {S = S} step (d ∷ cs) (q ∷ rs) s t g = (g.0, g.1, subst (λ (b : Bool). MatchBool b ((rs ≡ []) × (t ≡ g.0)) (AreReplies step cs rs g.0 t)) (sym g.2) (all_there step cs rs g.0 t g.3))

pub last_one : {S : Type 0} (step : Command → Reply → S → S → Type 0) (cs : List Command) (rs : List Reply) (c : Command) (rest : List Command) (r : Reply) (s t u : S) → GoesOn step cs rs s t → step c r t u → ends_list r ≡ true
    → AreReplies step (cs ++ c ∷ rest) (rs ++ r ∷ []) s u
last_one step [] [] c rest r s t u g k e = (u, subst (λ x. step c r x u) g k, subst (λ (b : Bool). MatchBool b ((no_reply ≡ []) × (u ≡ u)) (AreReplies step rest [] u u)) (sym e) (refl, refl))
last_one step [] (q ∷ rs) c rest r s t u g k e = absurd g
last_one step (d ∷ cs) [] c rest r s t u g k e = absurd g
last_one step (d ∷ cs) (q ∷ rs) c rest r s t u g k e = (g.0, g.1, subst (λ (b : Bool). MatchBool b ((rs ++ r ∷ [] ≡ []) × (u ≡ g.0)) (AreReplies step (cs ++ c ∷ rest) (rs ++ r ∷ []) g.0 u)) (sym g.2) (last_one step cs rs c rest r g.0 t u g.3 k e))
