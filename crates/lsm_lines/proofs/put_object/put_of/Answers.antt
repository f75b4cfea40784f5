use Rattle.lsm_lines.proofs.ObjectLaws.{no_key_spelled, no_value_spelled}
use Rattle.lsm_lines.proofs.put_object.put_of.Goals as goal

pub returns-in-None-clause-none : goal.returns-in-None-clause-none
returns-in-None-clause-none c =
    no_key_spelled c.args.first.name.now c.args.first.text.now c.args.second.name.now
    c.args.second.text.now (rw c.in-None.is at c.in_ok-key.ensures.none)

pub returns-in-None-2-clause-none : goal.returns-in-None-2-clause-none
returns-in-None-2-clause-none c =
    no_value_spelled c.args.first.name.now c.args.first.text.now c.args.second.name.now
    c.args.second.text.now (rw c.in-None-2.is at c.in_ok-value.ensures.none)
