use Rattle.std.proofs.Common.{◌∷◌, [], get_or, refl, rules, inl, inr, Option, Some, None}
use Rattle.std.specs.Prelude.{IfSome}
use Rattle.lsm_text.specs.Spelling.{escaped}
use Rattle.lsm_text.proofs.SyntaxFaultLaws.{front_is}
use Rattle.lsm_text.proofs.text_words.first_part.Goals as goal

some_so : {X : Type 0} (o : Option X) (P Q : X → Type 0) → ((x : X) → P x → Q x) → IfSome o P → IfSome o Q
some_so None P Q f h = tt
some_so (Some x) P Q f h = f x h

pub returns-then-is_plain-clause-some : goal.returns-then-is_plain-clause-some
returns-then-is_plain-clause-some c =
    (get_or c.args.text.now 0 0 ∷ [], front_is c.args.text.now c.in-len1-up.len_at_least, inl (refl, search rules))

pub returns-clause-some : goal.returns-clause-some
returns-clause-some c =
    some_so c.first_escaped.result _ _ (λ p h. (escaped p.0, h.0, inr (refl, h.1))) c.first_escaped.ensures.some
