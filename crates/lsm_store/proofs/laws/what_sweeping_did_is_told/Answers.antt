use Rattle.lsm_store.proofs.SweepLaws.{only_has_swept}
use Rattle.lsm_store.proofs.laws.what_sweeping_did_is_told.Goals as goal

pub returns : goal.returns
returns g c = record { only = only_has_swept (g.S.Shelf.refuses g.N.Naming.place) g.K.Invariant.keeps }
