use Rattle.lsm_cmd_load.proofs.SweepLaws.{same_mark, still_idle}
use Rattle.lsm_cmd_load.proofs.sweeping.sweep.Goals as goal

pub returns-in-Ok-clause-same : goal.returns-in-Ok-clause-same
returns-in-Ok-clause-same g c = same_mark c.args.state.now c.sweep.new.state c.sweep.ensures.looked c.sweep.ensures.rest

pub returns-in-Err-clause-same : goal.returns-in-Err-clause-same
returns-in-Err-clause-same g c = same_mark c.args.state.now c.sweep.new.state c.sweep.ensures.looked c.sweep.ensures.rest

pub returns-in-Ok-clause-idle : goal.returns-in-Ok-clause-idle
returns-in-Ok-clause-idle g c = still_idle c.args.state.now c.sweep.new.state c.sweep.ensures.looked c.sweep.ensures.rest

pub returns-in-Err-clause-idle : goal.returns-in-Err-clause-idle
returns-in-Err-clause-idle g c = still_idle c.args.state.now c.sweep.new.state c.sweep.ensures.looked c.sweep.ensures.rest
