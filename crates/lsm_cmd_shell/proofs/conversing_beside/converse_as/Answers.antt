use Rattle.std.proofs.Common.{refl, sym}
use Rattle.lsm_shelf.specs.Stored.{Stored}
use Rattle.lsm_cmd_shell.proofs.BesideLaws.{fault_same}
use Rattle.lsm_cmd_shell.proofs.conversing_beside.converse_as.Goals as goal

pub returns-clause-fault : goal.returns-clause-fault
returns-clause-fault g c =
    fault_same (Stored g.row.S-Receipt.Denot (g.S.Shelf.is_of g.N.Naming.place) g.S.Receipt.TableReceipt.number g.S.Receipt.TableReceipt.image) (g.S.Shelf.refuses g.N.Naming.place) g.S.Shelf.honest
    c.args.prepared.now.start c.args.prepared.now.logs.items c.args.form c.args.bails c.args.workers c.args.lines.left c.args.lines.left c.of-shelf.result (g.S.Shelf.told c.args.shelf) c.converse_named-done.new.shelf
    (g.S.Shelf.told c.into_shelf.result) (g.O.Write.contents c.args.out.now) (g.O.Write.contents c.converse_named-done.new.out) c.converse_named-done.result refl c.of-shelf.ensures (sym c.into_shelf.ensures.told)
    c.converse_named-done.ensures.fault
