use Rattle.lsm_store.proofs.WorkingLaws.{only_worked, worked_counted}
use Rattle.lsm_store.proofs.laws.what_workers_did_is_told.Goals as goal

pub returns-clause-counted : goal.returns-clause-counted
returns-clause-counted g c given back e w = worked_counted g.S.Shelf.honest (g.S.Shelf.refuses g.N.Naming.place) g.K.Invariant.keeps given e back w

pub returns-clause-only : goal.returns-clause-only
returns-clause-only g c given back e w = only_worked g.S.Shelf.honest (g.S.Shelf.refuses g.N.Naming.place) g.K.Invariant.keeps given e back w
