use Rattle.std.proofs.Common.{◌∙◌}
use Rattle.lsm_frames.specs.Texts.{text}
use Rattle.lsm_frames.specs.Requests.{FitsText}
use Rattle.lsm_frames.specs.Reading.{text_at}
use Rattle.lsm_frames.proofs.FieldLaws.{text_format}
use Rattle.lsm_frames.proofs.HeldLaws.{lent_held, held_is}
use Rattle.lsm_frames.proofs.key_list.KeyList.keys.Goals as goal

pub over-requires : goal.over-requires
over-requires c = rw c.deref.ensures.value (lent_held text_at text FitsText text_format c.self.inside.bytes.items c.self.invariant)

pub returns : goal.returns
returns c = c.over.ensures ∙ rw c.deref.ensures.value (held_is text_at c.self.inside.bytes.items) ∙ c.self.view_is
