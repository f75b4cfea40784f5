use Rattle.std.proofs.Common.{◌-◌}
use Rattle.lsm_wal.proofs.FrontLaws.{Between}
use Rattle.lsm_wal.proofs.log_front.before_fault.Given as goal

abbrev pub invariant-halves : goal.invariant-halves
invariant-halves l = Between l.least l.bytes l.len l.end l.log.rest l.log.batches l.fault

abbrev pub decreases-halves : goal.decreases-halves
decreases-halves l = l.end - l.len
