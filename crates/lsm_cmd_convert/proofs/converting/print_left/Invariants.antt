use Rattle.std.proofs.Common.{length}
use Rattle.lsm_text.specs.EntryPrinting.{entry_list}
use Rattle.lsm_text.proofs.CallerLemmas.{Printed}
use Rattle.lsm_cmd_convert.proofs.converting.print_left.Given as goal

abbrev pub invariant-values : goal.invariant-values
invariant-values g l =
    Printed entry_list l.fn.entries.left l.entries.left (g.O.Write.contents l.fn.out) l.fn.printer.held.items (g.O.Write.contents l.out) l.printer.held.items

abbrev pub decreases-values : goal.decreases-values
decreases-values g l = length l.entries.left
