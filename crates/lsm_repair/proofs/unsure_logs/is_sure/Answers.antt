use Rattle.std.proofs.Common.{map, refl, string_bytes}
use Rattle.lsm_repair.proofs.UnsureLaws.{sure_by}
use Rattle.lsm_repair.proofs.unsure_logs.is_sure.Goals as goal

pub returns-then-has_later : goal.returns-then-has_later
returns-then-has_later c = λ h. h.latest c.if-has_later.ensures

pub returns : goal.returns
returns c =
    sure_by c.args.logs.is_whole c.args.logs (map string_bytes c.args.names.now) refl
    c.if-has_later.ensures
