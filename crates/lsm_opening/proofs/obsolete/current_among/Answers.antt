use Rattle.std.proofs.Common.{string_bytes}
use Rattle.lsm_opening.specs.Names.{IsManifestName}
use Rattle.lsm_opening.specs.Tidying.{IsNamedBy}
use Rattle.lsm_opening.proofs.NameLaws.{among_at, none_more}
use Rattle.lsm_opening.proofs.TidyLaws.{none_of, some_of}
use Rattle.lsm_opening.proofs.obsolete.current_among.Goals as goal

pub returns-in-Some : goal.returns-in-Some
returns-in-Some c =
    let named = some_of _ _ c.in_ok-number.field-0 c.in-Some.number c.in-Some.is c.in_ok-number.ensures in
    (among_at string_bytes (IsManifestName c.in-Some.number) c.args.names.now c.loop-name.name-index c.name-item.result c.as_str.result.now c.loop-name-test.true c.name-item.is c.as_str.ensures.value named.0, named.1)

pub loop-name-preserved : goal.loop-name-preserved
loop-name-preserved c =
    none_more string_bytes (IsNamedBy c.args.text.now) c.args.names.now c.loop-name.name-index c.name-item.result c.as_str.result.now c.loop-name-test.true c.name-item.is c.as_str.ensures.value
    c.loop-name.invariant (none_of _ _ c.in_ok-number.field-0 c.in_default.not-Some c.in_ok-number.ensures)
