use Rattle.lsm_log_files.proofs.LogLaws.{number_says}
use Rattle.lsm_log_files.proofs.log_files.number_read.Goals as goal

pub returns : goal.returns
returns c = number_says c.args.log c.args.prev_log c.args.file.now c.first_unread.result
    (rw c.from_ref.ensures.value at c.first_unread.ensures)
