use Rattle.std.proofs.Common.{◌+◌}
use Rattle.std.proofs.lemmas.Result.{on_ok_weaker}
use Rattle.lsm_journal.proofs.Recording.{recorded_fit, started_recorded}
use Rattle.lsm_journal.proofs.journal.Journal.roll_over.Goals as goal

pub start-requires-clause-keys : goal.start-requires-clause-keys
start-requires-clause-keys g c κs within = let r = c.requires.recorded in recorded_fit r.0 c.args.self.now c.args.version.now c.args.number r.1

pub returns-clause-recorded : goal.returns-clause-recorded
returns-clause-recorded g c =
    on_ok_weaker _ (λ r. started_recorded c.args.self.now _ c.args.number _ c.args.version.now (c.args.number + 1) c.requires.recorded.1.own r.held r.spelled) c.start.ensures.rolls
