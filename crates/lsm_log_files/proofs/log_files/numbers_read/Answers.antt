use Rattle.lsm_log_files.proofs.LogLaws.{numbers_all, numbers_more}
use Rattle.lsm_log_files.proofs.log_files.numbers_read.Goals as goal

pub loop-file-preserved : goal.loop-file-preserved
loop-file-preserved c =
    numbers_more c.args.log c.args.prev_log c.args.files.now c.loop-file.file-index
    c.file-item.result c.loop-file.numbers.items c.add_number.new.numbers.items
    c.loop-file-test.true c.file-item.is
    c.loop-file.invariant c.in_ok-add_number.ensures

pub returns : goal.returns
returns c = numbers_all c.args.log c.args.prev_log c.args.files.now c.loop-file.file-index
    c.loop-file.numbers.items c.loop-file-test.false c.loop-file.invariant
