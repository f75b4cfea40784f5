use Rattle.std.proofs.Common.{inl, inr}
use Rattle.lsm_cmd_shell.proofs.compacting.compact.Goals as goal

pub returns-in-Ok : goal.returns-in-Ok
returns-in-Ok g c = let r = c.say_installed.ensures in (r.0, inl (c.in-Ok.count, rw c.in-Ok.is at c.compact_all.ensures.ok, r.1), r.2)

pub returns-in-Err : goal.returns-in-Err
returns-in-Err g c = let r = c.say_reply.ensures in (r.0, inr (c.in-Err.fault, rw c.in-Err.is at c.compact_all.ensures.err, r.1), r.2)
