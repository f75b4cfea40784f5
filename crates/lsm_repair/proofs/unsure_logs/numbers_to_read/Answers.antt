use Rattle.std.proofs.Common.{string_bytes}
use Rattle.lsm_repair.proofs.UnsureLaws.{numbers_all, numbers_more, numbers_none}
use Rattle.lsm_repair.proofs.unsure_logs.numbers_to_read.Goals as goal

pub loop-name-init : goal.loop-name-init
loop-name-init c = rw c.new-numbers.ensures.items (numbers_none c.args.logs)

pub loop-name-preserved : goal.loop-name-preserved
loop-name-preserved c =
    numbers_more string_bytes c.args.logs c.args.names.now c.loop-name.name-index
    c.name-item.result c.as_str.result.now c.loop-name.numbers.items
    c.add_number.new.numbers.items c.loop-name-test.true c.name-item.is c.as_str.ensures.value
    c.loop-name.invariant c.in_ok-add_number.ensures

pub returns : goal.returns
returns c =
    numbers_all string_bytes c.args.logs c.args.names.now c.loop-name.name-index
    c.loop-name.numbers.items c.loop-name-test.false c.loop-name.invariant
