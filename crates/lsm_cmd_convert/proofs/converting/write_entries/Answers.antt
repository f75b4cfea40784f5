use Rattle.std.proofs.Common.{ℕ, List, subst}
use Rattle.lsm_text.specs.EntryPrinting.{entry_list}
use Rattle.lsm_text.specs.Printing.{Stops}
use Rattle.lsm_text.proofs.CallerLemmas.{err_finish, on_err}
use Rattle.lsm_cmd_convert.proofs.converting.write_entries.Goals as goal

pub returns-in_err-print_left-clause-begun : goal.returns-in_err-print_left-clause-begun
returns-in_err-print_left-clause-begun g c =
    on_err c.from_residual.result
    (subst (λ (h : List ℕ). Stops (g.O.Write.contents c.args.out.now) h (g.O.Write.contents c.print_left.new.out) (entry_list c.args.entries.now.left)) c.requires
    c.in_err-print_left.ensures.begun)

pub returns-clause-begun : goal.returns-clause-begun
returns-clause-begun g c =
    err_finish c.finish.result (g.O.Write.contents c.args.out.now) (g.O.Write.contents c.print_left.new.out) (g.O.Write.contents c.finish.new.out)
    c.args.printer.now.held.items c.print_left.new.printer.held.items (entry_list c.args.entries.now.left) c.requires c.in_ok-print_left.ensures.printed c.finish.ensures.begun
