use Rattle.lsm_repair.proofs.FreeLaws.{unused_more, unused_same}
use Rattle.lsm_repair.proofs.free_number.next_above.Goals as goal

pub returns-else-number-clause-some : goal.returns-else-number-clause-some
returns-else-number-clause-some c = λ front h.
    unused_more front c.args.name.now c.args.next c.in-Some.number c.max.result h
    c.in-Some.ensures.only c.in-Some.ensures.found c.max.ensures

pub returns-in-None-clause-some : goal.returns-in-None-clause-some
returns-in-None-clause-some c = λ front h.
    unused_same front c.args.name.now c.args.next h
    (λ m g. (let e = c.in-None.ensures.found m g in absurd cc))
