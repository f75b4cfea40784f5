use Rattle.lsm_repair.proofs.OldLaws.{not_old_from, old_from}
use Rattle.lsm_repair.proofs.old_manifest.read_old.Goals as goal

pub returns-in-Ok-clause-old : goal.returns-in-Ok-clause-old
returns-in-Ok-clause-old g c =
    old_from (g.S.Shelf.refuses g.N.Naming.place) c.logs_in.result c.in-Ok.number
    c.in-Ok.bytes.items c.deref.result.now c.args.shelf.now c.read_manifest.new.self
    c.deref.ensures.value c.in-Ok.ensures.ok c.logs_in.ensures.logs c.logs_in.ensures.bytewise

pub returns-in-Ok-clause-refused : goal.returns-in-Ok-clause-refused
returns-in-Ok-clause-refused g c =
    not_old_from (g.S.Shelf.refuses g.N.Naming.place) c.logs_in.result c.in-Ok.number
    c.in-Ok.bytes.items c.deref.result.now c.args.shelf.now c.read_manifest.new.self
    c.deref.ensures.value c.in-Ok.ensures.ok c.logs_in.ensures.refused
