use Rattle.std.proofs.Common.{[]}
use Rattle.lsm_text.proofs.PrinterLaws.{on_err, stops_in}
use Rattle.lsm_text.proofs.printer.Printer.push.Goals as goal

pub returns-in_err-make_room-clause-begun : goal.returns-in_err-make_room-clause-begun
returns-in_err-make_room-clause-begun g c =
    on_err c.from_residual.result
    (stops_in (g.O.Write.contents c.args.out.now) (g.O.Write.contents c.make_room.new.out) c.args.self.now.held.items [] c.args.piece.now c.in_err-make_room.ensures.begun)
