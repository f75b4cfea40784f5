use Rattle.lsm_repair.proofs.UnsureLaws.{number_added, number_not_added}
use Rattle.lsm_repair.proofs.unsure_logs.add_number.Goals as goal

pub returns-in_ok-push-in-Some : goal.returns-in_ok-push-in-Some
returns-in_ok-push-in-Some c =
    rw c.in_ok-push-in-Some.ensures.items
    (number_added c.args.logs c.args.name.now c.args.numbers.now.items c.in-Some.number
    c.in-Some.ensures.0 c.in-Some.ensures.1)

pub returns-in-None : goal.returns-in-None
returns-in-None c =
    number_not_added c.args.logs c.args.name.now c.args.numbers.now.items c.in-None.ensures
