use Rattle.std.proofs.Common.{refl, arith}
use Rattle.std.specs.Prelude.{IfSome}
use Rattle.lsm_frames.specs.Texts.{optional}
use Rattle.lsm_frames.specs.Requests.{FitsText}
use Rattle.lsm_frames.specs.Reading.{optional_at}
use Rattle.lsm_frames.specs.Held.{values_head}
use Rattle.lsm_frames.proofs.FieldLaws.{optional_format}
use Rattle.lsm_frames.proofs.HeldLaws.{holds_none}
use Rattle.lsm_frames.proofs.values_answer.ValuesAnswer.new.Goals as goal

pub invariant_of-result : goal.invariant_of-result
invariant_of-result c = (holds_none optional_at optional (λ o. IfSome o FitsText) optional_format values_head 5 c.in_ok-bytes.bytes.items refl (omega arith) c.in_ok-bytes.ensures).1

pub returns : goal.returns
returns c = (holds_none optional_at optional (λ o. IfSome o FitsText) optional_format values_head 5 c.in_ok-bytes.bytes.items refl (omega arith) c.in_ok-bytes.ensures).0
