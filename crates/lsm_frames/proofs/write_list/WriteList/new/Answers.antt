use Rattle.std.proofs.Common.{[], refl, arith}
use Rattle.lsm_frames.specs.Requests.{FitsWritten, written_text}
use Rattle.lsm_frames.specs.Reading.{written_at}
use Rattle.lsm_frames.proofs.FieldLaws.{written_format}
use Rattle.lsm_frames.proofs.HeldLaws.{holds_none}
use Rattle.lsm_frames.proofs.write_list.WriteList.new.Goals as goal

pub invariant_of-result : goal.invariant_of-result
invariant_of-result c = (holds_none written_at written_text FitsWritten written_format [] 0 c.new.result.items refl (omega arith) c.new.ensures.items).1

pub returns : goal.returns
returns c = (holds_none written_at written_text FitsWritten written_format [] 0 c.new.result.items refl (omega arith) c.new.ensures.items).0
