use Rattle.std.proofs.Common.{◌∙◌}
use Rattle.lsm_frames.specs.Requests.{FitsWritten, written_text}
use Rattle.lsm_frames.specs.Reading.{written_at}
use Rattle.lsm_frames.proofs.FieldLaws.{written_format}
use Rattle.lsm_frames.proofs.HeldLaws.{lent_held, held_is}
use Rattle.lsm_frames.proofs.write_list.WriteList.writes.Goals as goal

pub over-requires : goal.over-requires
over-requires c = rw c.deref.ensures.value (lent_held written_at written_text FitsWritten written_format c.self.inside.bytes.items c.self.invariant)

pub returns : goal.returns
returns c = c.over.ensures ∙ rw c.deref.ensures.value (held_is written_at c.self.inside.bytes.items) ∙ c.self.view_is
