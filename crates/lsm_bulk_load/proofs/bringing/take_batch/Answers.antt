use Rattle.lsm_bulk_load.proofs.LoadLaws.{not_taken}
use Rattle.lsm_bulk_load.proofs.bringing.take_batch.Goals as goal

pub returns-clause-refused : goal.returns-clause-refused
returns-clause-refused g c =
    not_taken (g.S.Shelf.refuses g.N.Naming.place) g.O.Origin.keeps c.args.lines.now c.next.new.self c.in-Ok.gathered c.args.mark c.in-Err.refused.1 c.in-Err.refused.0 c.in-Ok.ensures c.in-Err.ensures.refused
