use Rattle.lsm_log_files.proofs.LogLaws.{logs_are}
use Rattle.lsm_log_files.proofs.log_files.logs_read.Goals as goal

pub returns-in-Ok : goal.returns-in-Ok
returns-in-Ok c =
    logs_are c.args.log c.args.prev_log c.args.files.now c.in_ok-numbers.numbers.items
    c.in-Ok.numbers.items c.in-Ok.ensures.ascending c.in-Ok.ensures.all c.in_ok-numbers.ensures
