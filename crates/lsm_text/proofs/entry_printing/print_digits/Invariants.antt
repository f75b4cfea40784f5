use Rattle.std.proofs.Common.{length}
use Rattle.hex.specs.Hex.{encode_lower}
use Rattle.lsm_text.proofs.PrinterLaws.{Printed}
use Rattle.lsm_text.proofs.entry_printing.print_digits.Given as goal

abbrev pub invariant-pieces : goal.invariant-pieces
invariant-pieces g l =
    Printed encode_lower l.bytes l.rest (g.O.Write.contents l.fn.out) l.fn.printer.held.items (g.O.Write.contents l.out) l.printer.held.items

abbrev pub decreases-pieces : goal.decreases-pieces
decreases-pieces g l = length l.rest
