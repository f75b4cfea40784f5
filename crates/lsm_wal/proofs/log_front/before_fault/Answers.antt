use Rattle.std.proofs.Common.{◌≡◌, suc, take, ◌∙◌, subst, arith}
use Rattle.lsm_wal.specs.Front.{IsFaultAbove}
use Rattle.lsm_wal.proofs.FrontLaws.{between_first}
use Rattle.lsm_wal.proofs.log_front.before_fault.Goals as goal

pub halves-init : goal.halves-init
halves-init c =
    between_first c.args.least c.args.bytes.now c.of.result c.args.fault
    (c.of.ensures ∙ c.new.ensures.items) c.requires

pub returns-clause-fault : goal.returns-clause-fault
returns-clause-fault c =
    let next : c.halves.end ≡ suc c.halves.len =
    omega (arith, c.halves.invariant.apart, c.halves-test.false) in
    subst (λ n. IsFaultAbove c.args.least (take n c.args.bytes.now) c.halves.fault) next
    c.halves.invariant.faulty
