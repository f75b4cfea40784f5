use Rattle.lsm_lines.proofs.ObjectLaws.{no_spelling}
use Rattle.lsm_lines.proofs.put_object.put_in_text.Goals as goal

pub returns-clause-none : goal.returns-clause-none
returns-clause-none c = λ w p.
    no_spelling c.args.text.now c.in_ok-reader.reader c.in-Some.first.name.now
    c.in-Some.first.text.now c.in-Some.second.name.now c.in-Some.second.text.now w
    c.in_ok-reader.ensures.ok c.in-Some.ensures.some
    (rw c.in-None.is at c.in_ok-write.ensures.none) p
