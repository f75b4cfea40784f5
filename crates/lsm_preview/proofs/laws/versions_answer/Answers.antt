use Rattle.lsm_shelf.specs.Stored.{Stored}
use Rattle.lsm_preview.proofs.VersionLaws.{version_answers}
use Rattle.lsm_preview.proofs.laws.versions_answer.Goals as goal

pub returns : goal.returns
returns g c = λ place sight files preview old new was is p v read es below none key.
    version_answers c.copies_answer.ensures.copy c.one_manifest.ensures c.entries_are.ensures.same
    (Stored g.row.S-Receipt.Denot (g.S.Shelf.is_of place) g.S.Receipt.TableReceipt.number
    g.S.Receipt.TableReceipt.image) sight.inflates p.shape p.logs p.batches _ preview.entries p.mid
    is p.view v read es below none key
