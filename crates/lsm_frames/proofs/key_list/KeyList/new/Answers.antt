use Rattle.std.proofs.Common.{[], refl, arith}
use Rattle.lsm_frames.specs.Texts.{text}
use Rattle.lsm_frames.specs.Requests.{FitsText}
use Rattle.lsm_frames.specs.Reading.{text_at}
use Rattle.lsm_frames.proofs.FieldLaws.{text_format}
use Rattle.lsm_frames.proofs.HeldLaws.{holds_none}
use Rattle.lsm_frames.proofs.key_list.KeyList.new.Goals as goal

pub invariant_of-result : goal.invariant_of-result
invariant_of-result c = (holds_none text_at text FitsText text_format [] 0 c.new.result.items refl (omega arith) c.new.ensures.items).1

pub returns : goal.returns
returns c = (holds_none text_at text FitsText text_format [] 0 c.new.result.items refl (omega arith) c.new.ensures.items).0
