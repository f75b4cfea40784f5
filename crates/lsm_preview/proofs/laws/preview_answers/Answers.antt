use Rattle.lsm_shelf.specs.Stored.{Stored}
use Rattle.lsm_preview.proofs.ViewLaws.{view_answers}
use Rattle.lsm_preview.proofs.laws.preview_answers.Goals as goal

pub returns : goal.returns
returns g c = λ place sight files preview old new was is p es none key.
    view_answers c.copies_answer.ensures.copy (Stored g.row.S-Receipt.Denot (g.S.Shelf.is_of place)
    g.S.Receipt.TableReceipt.number g.S.Receipt.TableReceipt.image) sight.inflates p.shape p.logs
    p.batches _ preview.entries p.mid is p.view es none key
