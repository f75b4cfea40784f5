use Rattle.std.proofs.Common.{◌-◌, ◌^◌, string_bytes}
use Rattle.lsm_opening.specs.Names.{IsNumbered}
use Rattle.lsm_opening.proofs.NameLaws.{among_at, none_all, none_more}
use Rattle.lsm_opening.proofs.names.are_numbers_spent.Goals as goal

pub returns-then-has_last_number : goal.returns-then-has_last_number
returns-then-has_last_number c =
    among_at string_bytes (IsNumbered (2 ^ 64 - 1)) c.args.names.now c.loop-name.name-index c.name-item.result c.as_str.result.now c.loop-name-test.true c.name-item.is c.as_str.ensures.value c.if-has_last_number.ensures

pub loop-name-preserved : goal.loop-name-preserved
loop-name-preserved c =
    none_more string_bytes (IsNumbered (2 ^ 64 - 1)) c.args.names.now c.loop-name.name-index c.name-item.result c.as_str.result.now c.loop-name-test.true c.name-item.is c.as_str.ensures.value
    c.loop-name.invariant c.if-has_last_number.ensures

pub returns : goal.returns
returns c = none_all string_bytes (IsNumbered (2 ^ 64 - 1)) c.args.names.now c.loop-name.name-index c.loop-name-test.false c.loop-name.invariant
