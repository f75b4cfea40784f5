use Rattle.hex.specs.Hex.{encode_lower}
use Rattle.lsm_text.proofs.EntryPieces.{digits_none, digits_split}
use Rattle.lsm_text.proofs.PrinterLaws.{on_err, printed_more, printed_none, printed_stops}
use Rattle.lsm_text.proofs.entry_printing.print_digits.Goals as goal

pub pieces-init : goal.pieces-init
pieces-init g c = printed_none encode_lower c.args.bytes.now (g.O.Write.contents c.args.out.now) c.args.printer.now.held.items digits_none

pub returns-in_err-print_piece-clause-begun : goal.returns-in_err-print_piece-clause-begun
returns-in_err-print_piece-clause-begun g c =
    on_err c.from_residual.result
    (printed_stops encode_lower c.args.bytes.now c.pieces.rest.now c.split_at.result.1.now c.split_at.result.0.now
    (g.O.Write.contents c.args.out.now) (g.O.Write.contents c.pieces.out) (g.O.Write.contents c.print_piece.new.out)
    c.args.printer.now.held.items c.pieces.printer.held.items digits_split c.pieces.invariant c.split_at.ensures.by_index.0 c.in_err-print_piece.ensures.begun)

pub pieces-preserved : goal.pieces-preserved
pieces-preserved g c =
    printed_more encode_lower c.args.bytes.now c.pieces.rest.now c.split_at.result.1.now c.split_at.result.0.now
    (g.O.Write.contents c.args.out.now) (g.O.Write.contents c.pieces.out) (g.O.Write.contents c.print_piece.new.out)
    c.args.printer.now.held.items c.pieces.printer.held.items c.print_piece.new.printer.held.items digits_split c.pieces.invariant c.split_at.ensures.by_index.0
    c.in_ok-print_piece.ensures.printed
