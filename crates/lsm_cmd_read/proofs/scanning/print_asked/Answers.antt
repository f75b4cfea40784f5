use Rattle.lsm_cmd_read.proofs.ScanLaws.{lines_and_count}
use Rattle.lsm_cmd_read.proofs.scanning.print_asked.Goals as goal

pub returns-clause-done : goal.returns-clause-done
returns-clause-done g c = λ honest.
    lines_and_count c.args.form c.args.options.now c.args.scan.now.left c.in_ok-printed.printed _ _
    _ (c.in_ok-printed.ensures.done honest) c.in_ok-print_count.ensures
