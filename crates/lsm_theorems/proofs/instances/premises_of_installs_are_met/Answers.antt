use Rattle.std.proofs.Common.{refl}
use Rattle.lsm_theorems.proofs.Witnesses.{judged, placed, tables, two_jobs, two_outputs}
use Rattle.lsm_theorems.proofs.instances.premises_of_installs_are_met.Goals as goal

pub returns-clause-jobs : goal.returns-clause-jobs
returns-clause-jobs c = two_jobs

pub returns-clause-cut : goal.returns-clause-cut
returns-clause-cut c = two_outputs

pub returns-clause-judged : goal.returns-clause-judged
returns-clause-judged c = (tables, placed, judged, refl)
