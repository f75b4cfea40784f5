use Rattle.lsm_bulk_load.specs.Keeping.{IsOfLines}
use Rattle.lsm_bulk_load.proofs.KeepingLaws.{grown}
use Rattle.lsm_bulk_load.proofs.laws.what_came_is_of_lines.Goals as goal

pub returns : goal.returns
returns g c = λ lines found h come. grown (g.S.Shelf.refuses g.N.Naming.place) g.S.Shelf.honest (IsOfLines lines) found h come
