use Rattle.std.proofs.Common.{string_bytes}
use Rattle.lsm_repair.specs.UnsureLogs.{IsLater}
use Rattle.lsm_repair.proofs.FreeLaws.{among_at}
use Rattle.lsm_repair.proofs.UnsureLaws.{none_all, none_more}
use Rattle.lsm_repair.proofs.unsure_logs.has_later.Goals as goal

pub loop-name-init : goal.loop-name-init
loop-name-init c = λ h. absurd h.1

pub loop-name-preserved : goal.loop-name-preserved
loop-name-preserved c =
    none_more string_bytes (IsLater c.args.number) c.args.names.now c.loop-name.name-index
    c.name-item.result c.as_str.result.now c.loop-name-test.true c.name-item.is
    c.as_str.ensures.value c.loop-name.invariant c.if-is_later.ensures

pub returns-then-is_later : goal.returns-then-is_later
returns-then-is_later c =
    among_at string_bytes (IsLater c.args.number) c.args.names.now c.loop-name.name-index
    c.name-item.result c.as_str.result.now c.loop-name-test.true c.name-item.is
    c.as_str.ensures.value c.if-is_later.ensures

pub returns : goal.returns
returns c =
    none_all string_bytes (IsLater c.args.number) c.args.names.now c.loop-name.name-index
    c.loop-name-test.false c.loop-name.invariant
