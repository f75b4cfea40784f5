use Rattle.std.proofs.Common.{arith, map, take, string_bytes, subst}
use Rattle.lsm_opening.proofs.CallerLemmas.{all_names, next_name}
use Rattle.lsm_opening.specs.Names.{IsLeastUnused}
use Rattle.lsm_repair.specs.FreeNumber.{IsHigh}
use Rattle.lsm_repair.proofs.FreeLaws.{among_at, if_none, unused_none}
use Rattle.lsm_repair.proofs.free_number.free_number.Goals as goal

pub loop-name-init : goal.loop-name-init
loop-name-init c = record { least = unused_none; few = omega arith }

pub loop-name-preserved : goal.loop-name-preserved
loop-name-preserved c = record {
  least = subst (λ ns. IsLeastUnused ns c.in_ok-next.next)
      (next_name string_bytes c.args.names.now c.loop-name.name-index c.name-item.result
      c.as_str.result.now c.loop-name-test.true c.name-item.is c.as_str.ensures.value)
      (c.in_ok-next.ensures.some (map string_bytes (take c.loop-name.name-index c.args.names.now))
      c.loop-name.invariant.least);
  few = c.in_ok-next.ensures.few;
}

pub returns-clause-least : goal.returns-clause-least
returns-clause-least c =
    subst (λ ns. IsLeastUnused ns c.loop-name.next) (all_names string_bytes c.args.names.now
    c.loop-name.name-index c.loop-name-test.false) c.loop-name.invariant.least

pub returns-in_err-next-clause-none : goal.returns-in_err-next-clause-none
returns-in_err-next-clause-none c =
    if_none c.from_residual.result _
    (among_at string_bytes IsHigh c.args.names.now c.loop-name.name-index c.name-item.result
    c.as_str.result.now c.loop-name-test.true c.name-item.is c.as_str.ensures.value
    c.in_err-next.ensures.none)
