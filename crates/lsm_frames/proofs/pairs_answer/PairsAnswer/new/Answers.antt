use Rattle.std.proofs.Common.{refl, ◌∙◌, ap, List, ℕ, ◌++◌, [], ◌∷◌, arith}
use Rattle.lsm_frames.specs.Answers.{pair_text}
use Rattle.lsm_frames.specs.Reading.{pair_at}
use Rattle.lsm_frames.specs.Held.{FitsPair, pairs_head}
use Rattle.lsm_frames.proofs.FieldLaws.{pair_format}
use Rattle.lsm_frames.proofs.HeldLaws.{holds_none}
use Rattle.lsm_frames.proofs.pairs_answer.PairsAnswer.new.Goals as goal

pub invariant_of-result : goal.invariant_of-result
invariant_of-result c = (holds_none pair_at pair_text FitsPair pair_format pairs_head 6 c.push.new.self.items refl (omega arith) (c.in_ok-push.ensures.items ∙ ap (λ (t : List ℕ). t ++ 0 ∷ []) c.in_ok-bytes.ensures)).1

pub returns : goal.returns
returns c = (holds_none pair_at pair_text FitsPair pair_format pairs_head 6 c.push.new.self.items refl (omega arith) (c.in_ok-push.ensures.items ∙ ap (λ (t : List ℕ). t ++ 0 ∷ []) c.in_ok-bytes.ensures)).0
