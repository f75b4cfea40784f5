use Rattle.std.proofs.Common.{length, sym, ap, ◌∙◌}
use Rattle.std.proofs.lemmas.Bool.{eqb-true}
use Rattle.lsm_frames.specs.Texts.{text}
use Rattle.lsm_frames.specs.Requests.{FitsText}
use Rattle.lsm_frames.specs.Reading.{text_at}
use Rattle.lsm_frames.proofs.FieldLaws.{text_format}
use Rattle.lsm_frames.proofs.ItemLaws.{nothing_from}
use Rattle.lsm_frames.proofs.spelling.spell_read.Goals as goal

pub returns-then-is_empty-clause-empty : goal.returns-then-is_empty-clause-empty
returns-then-is_empty-clause-empty c = λ _. nothing_from text_at text FitsText text_format c.args.keys.now (sym (ap length c.text-text.ensures.text) ∙ eqb-true _ _ (sym c.is_empty.ensures ∙ c.if-is_empty.true))
