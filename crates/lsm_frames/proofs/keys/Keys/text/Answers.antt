use Rattle.std.proofs.Common.{◌∙◌}
use Rattle.lsm_frames.specs.Texts.{text}
use Rattle.lsm_frames.specs.Requests.{FitsText}
use Rattle.lsm_frames.specs.Reading.{text_at}
use Rattle.lsm_frames.proofs.FieldLaws.{text_format}
use Rattle.lsm_frames.proofs.ItemLaws.{cursor_text}
use Rattle.lsm_frames.proofs.keys.Keys.text.Goals as goal

pub returns : goal.returns
returns c =
    let t = cursor_text text_at text FitsText text_format c.self.inside.rest.now c.lent.ensures.bytes c.self.invariant in
    rw (← c.self.view_is) (record { text = c.lent.ensures.same ∙ t.0; fits = t.1 })
