use Rattle.std.proofs.Common.{length, sym, ap, ◌∙◌}
use Rattle.std.proofs.lemmas.Bool.{eqb-true}
use Rattle.lsm_frames.specs.Requests.{FitsWritten, written_text}
use Rattle.lsm_frames.specs.Reading.{written_at}
use Rattle.lsm_frames.proofs.FieldLaws.{written_format}
use Rattle.lsm_frames.proofs.ItemLaws.{nothing_from}
use Rattle.lsm_frames.proofs.spelling.spell_writes.Goals as goal

pub returns-then-is_empty-clause-empty : goal.returns-then-is_empty-clause-empty
returns-then-is_empty-clause-empty c = λ _. nothing_from written_at written_text FitsWritten written_format c.args.writes.now (sym (ap length c.text-text.ensures.text) ∙ eqb-true _ _ (sym c.is_empty.ensures ∙ c.if-is_empty.true))
