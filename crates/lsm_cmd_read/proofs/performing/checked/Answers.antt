use Rattle.lsm_cmd_read.proofs.NoteLaws.{checked_logs}
use Rattle.lsm_cmd_read.proofs.performing.checked.Goals as goal

pub returns : goal.returns
returns g c =
    checked_logs c.args.opened.now.version c.args.opened.now.manifest c.args.inquiry.now.beside.now
    _ _ c.in_ok-text.ensures (rw c.deref.ensures.value at c.in_ok-push_logs.ensures)
