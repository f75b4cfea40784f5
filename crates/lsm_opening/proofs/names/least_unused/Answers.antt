use Rattle.std.proofs.Common.{◌-◌, ◌^◌, map, take, string_bytes, subst}
use Rattle.lsm_opening.specs.Names.{IsLeastUnused, IsNumbered}
use Rattle.lsm_opening.proofs.NameLaws.{all_names, among_at, if_none, next_name, unused_none}
use Rattle.lsm_opening.proofs.names.least_unused.Goals as goal

pub loop-name-init : goal.loop-name-init
loop-name-init c = unused_none

pub loop-name-preserved : goal.loop-name-preserved
loop-name-preserved c =
    subst (λ ns. IsLeastUnused ns c.in_ok-next.next)
    (next_name string_bytes c.args.names.now c.loop-name.name-index c.name-item.result c.as_str.result.now c.loop-name-test.true c.name-item.is c.as_str.ensures.value)
    (c.in_ok-next.ensures.some (map string_bytes (take c.loop-name.name-index c.args.names.now)) c.loop-name.invariant)

pub returns-clause-some : goal.returns-clause-some
returns-clause-some c = subst (λ ns. IsLeastUnused ns c.loop-name.next) (all_names string_bytes c.args.names.now c.loop-name.name-index c.loop-name-test.false) c.loop-name.invariant

pub returns-in_err-next-clause-none : goal.returns-in_err-next-clause-none
returns-in_err-next-clause-none c =
    if_none c.from_residual.result _
    (among_at string_bytes (IsNumbered (2 ^ 64 - 1)) c.args.names.now c.loop-name.name-index c.name-item.result c.as_str.result.now c.loop-name-test.true c.name-item.is
    c.as_str.ensures.value c.in_err-next.ensures.none)
