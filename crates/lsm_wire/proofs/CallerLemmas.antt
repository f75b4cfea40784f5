-- A conversation, turn by turn.
use Rattle.std.proofs.Common.{◌≡◌, ℕ, Bool, true, false, List, [], ◌∷◌, ◌++◌, refl, sym, ap, ◌∙◌, subst}
use Rattle.lsm_wire.specs.Happenings.{Happening, Came, Went}
use Rattle.lsm_wire.specs.Conversing.{Answers, AreTurns, IsConversation, IsEnd, IsTurnOrEnd, Turn, happened_in}

-- So far these turns were taken.
pub record SoFar {S : Type 0} (answers : Answers S) (s t : S) (was is : List Happening) : Type 0 where
  pub turns : List Turn
  pub answered : AreTurns answers turns s t
  pub all : is ≡ happened_in turns ++ was

pub none_yet : {S : Type 0} (answers : Answers S) (s : S) (was : List Happening) → SoFar answers s s was was
none_yet answers s was = record { turns = []; answered = refl; all = refl }

pub one_more : {S : Type 0} (answers : Answers S) (s t u : S) (was is now : List Happening) → SoFar answers s t was is → IsTurnOrEnd answers true t u is now → SoFar answers s u was now
one_more answers s t u was is now f k = record {
  turns = k.0 ∷ f.turns;
  answered = (t, f.answered, k.1);
  all = k.2 ∙ ap (λ (hs : List Happening). Went k.0.went true ∷ Came k.0.came ∷ hs) f.all;
}

pub ended : {S : Type 0} (answers : Answers S) (s t u : S) (was is now : List Happening) → SoFar answers s t was is → IsTurnOrEnd answers false t u is now → IsConversation answers s u was now
ended answers s t u was is now f k = record {
  turns = f.turns;
  mid = t;
  answered = f.answered;
  ended = subst (λ (hs : List Happening). IsEnd answers t u hs now) f.all k;
}
