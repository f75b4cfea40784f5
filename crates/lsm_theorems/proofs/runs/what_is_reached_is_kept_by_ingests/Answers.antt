use Rattle.lsm_theorems.proofs.ChainLaws.{reached_ingested}
use Rattle.lsm_theorems.proofs.runs.what_is_reached_is_kept_by_ingests.Goals as goal

pub returns : goal.returns
returns g c = λ found writes. reached_ingested g.S.Shelf.honest (g.S.Shelf.refuses g.N.Naming.place) writes found
