use Rattle.lsm_lines.proofs.ObjectLaws.{not_put}
use Rattle.lsm_lines.proofs.put_object.put_in.Goals as goal

pub returns-in-Ok-clause-none : goal.returns-in-Ok-clause-none
returns-in-Ok-clause-none c =
    not_put c.put_in_text.result c.args.line.now c.in-Ok.text.now c.in-Ok.ensures.cases.0
    c.put_in_text.ensures.none
