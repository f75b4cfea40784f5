use Rattle.std.proofs.Common.{None, Some, arith}
use Rattle.lsm_import.specs.LogTable.{IsMade}
use Rattle.lsm_import.proofs.LogLaws.{logs_fit, logs_none, logs_some}
use Rattle.lsm_import.proofs.copied.Copied.with_logs.Goals as goal

pub returns-then-count-eq0-clause-logs : goal.returns-then-count-eq0-clause-logs
returns-then-count-eq0-clause-logs c =
    logs_none (IsMade None) c.args.logs c.into_log.result.batches c.in_ok-batch.batch c.args.self
    c.in_ok-batch.ensures.last c.into_log.ensures.batches (omega arith)

pub returns-clause-fits : goal.returns-clause-fits
returns-clause-fits c = logs_fit c.args.self c.in_ok-copied.copied c.in_ok-file.file
    c.in_ok-first.first c.len-count.result c.requires.fits c.in_ok-file.ensures.fits
    c.in_ok-copied.ensures

pub returns-clause-logs : goal.returns-clause-logs
returns-clause-logs c =
    logs_some (IsMade (Some c.in_ok-file.table)) c.args.logs c.into_log.result.batches
    c.in_ok-batch.batch c.args.self c.in_ok-copied.copied c.in_ok-first.first c.len-count.result
    c.in_ok-file.file c.in_ok-batch.ensures.last c.into_log.ensures.batches c.len-count.ensures
    (omega arith) c.in_ok-first.ensures.above (omega (arith, c.in_ok-first.ensures.behind))
    c.in_ok-file.ensures.file c.in_ok-copied.ensures
