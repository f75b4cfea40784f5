use Rattle.std.proofs.Common.{refl}
use Rattle.lsm_shelf.specs.Stored.{Stored}
use Rattle.lsm_cmd_shell.proofs.BesideLaws.{fault_same}
use Rattle.lsm_cmd_shell.proofs.conversing_beside.converse_beside.Goals as goal

pub returns-clause-fault : goal.returns-clause-fault
returns-clause-fault g c =
    let place = (g.S.Shelf.told c.args.shelf).place in
    let was = g.S.Shelf.told c.args.shelf in
    let is = g.S.Shelf.told c.converse_as.result.1 in
    fault_same (Stored g.row.S-Receipt.Denot (g.S.Shelf.is_of place) g.S.Receipt.TableReceipt.number g.S.Receipt.TableReceipt.image) (g.S.Shelf.refuses place) g.S.Shelf.honest c.args.prepared.now.start
    c.args.prepared.now.logs.items c.args.form c.args.bails c.args.workers c.in-Ok.lines.left (g.I.Read.remaining c.args.input) was was is is (g.O.Write.contents c.args.out.now) (g.O.Write.contents c.converse_as.new.out)
    c.converse_as.result.0 c.in-Ok.ensures.left refl refl c.converse_as.ensures.fault
