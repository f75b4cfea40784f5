use Rattle.std.proofs.Common.{subst}
use Rattle.lsm_directory.specs.Logs.{IsReached}
use Rattle.lsm_repair.proofs.unsure_logs.number_to_read.Goals as goal

pub returns-then-is_reached : goal.returns-then-is_reached
returns-then-is_reached c = (
  (c.in-Some.ensures.0, c.if-is_reached.ensures),
  λ n h. c.in-Some.ensures.1 n h.0,
)

pub returns-else-is_reached : goal.returns-else-is_reached
returns-else-is_reached c = λ n h.
    c.if-is_reached.ensures
    (subst (IsReached c.args.logs.log c.args.logs.prev_log) (c.in-Some.ensures.1 n h.0) h.1)

pub returns-in-None : goal.returns-in-None
returns-in-None c = λ n h. c.in-None.ensures n h.0
