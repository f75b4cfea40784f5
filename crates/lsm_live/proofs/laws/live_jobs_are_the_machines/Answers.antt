use Rattle.lsm_live.proofs.Machine.{lives_added, lives_booked, lives_without}
use Rattle.lsm_live.proofs.laws.live_jobs_are_the_machines.Goals as goal

pub returns-clause-added : goal.returns-clause-added
returns-clause-added c = lives_added

pub returns-clause-drawn : goal.returns-clause-drawn
returns-clause-drawn c = lives_booked

pub returns-clause-removed : goal.returns-clause-removed
returns-clause-removed c = lives_without
