use Rattle.std.proofs.Common.{◌∙◌}
use Rattle.lsm_frames.specs.Requests.{FitsWritten, written_text}
use Rattle.lsm_frames.specs.Reading.{written_at}
use Rattle.lsm_frames.proofs.FieldLaws.{written_format}
use Rattle.lsm_frames.proofs.ItemLaws.{cursor_text}
use Rattle.lsm_frames.proofs.writes.Writes.text.Goals as goal

pub returns : goal.returns
returns c =
    let t = cursor_text written_at written_text FitsWritten written_format c.self.inside.rest.now c.lent.ensures.bytes c.self.invariant in
    rw (← c.self.view_is) (record { text = c.lent.ensures.same ∙ t.0; fits = t.1 })
