use Rattle.std.proofs.Common.{string_bytes}
use Rattle.lsm_opening.specs.Tidying.{IsObsolete}
use Rattle.lsm_opening.proofs.NameLaws.{among_at, none_all, none_more}
use Rattle.lsm_opening.proofs.obsolete.has_obsolete.Goals as goal

pub returns-then-is_obsolete : goal.returns-then-is_obsolete
returns-then-is_obsolete c =
    among_at string_bytes (IsObsolete c.args.manifest) c.args.names.now c.loop-name.name-index c.name-item.result c.as_str.result.now c.loop-name-test.true c.name-item.is c.as_str.ensures.value c.if-is_obsolete.ensures

pub loop-name-preserved : goal.loop-name-preserved
loop-name-preserved c =
    none_more string_bytes (IsObsolete c.args.manifest) c.args.names.now c.loop-name.name-index c.name-item.result c.as_str.result.now c.loop-name-test.true c.name-item.is c.as_str.ensures.value
    c.loop-name.invariant c.if-is_obsolete.ensures

pub returns : goal.returns
returns c = none_all string_bytes (IsObsolete c.args.manifest) c.args.names.now c.loop-name.name-index c.loop-name-test.false c.loop-name.invariant
