use Rattle.lsm_repair.proofs.FreeLaws.{kind_found}
use Rattle.lsm_repair.proofs.free_number.kind_of.Goals as goal

pub returns-clause-found : goal.returns-clause-found
returns-clause-found c = λ kind is.
    kind_found c.of.result kind c.args.name.now c.of.ensures.known c.of.ensures.other is
