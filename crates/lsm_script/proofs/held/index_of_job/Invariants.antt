use Rattle.std.proofs.Common.{◌≡◌, take}
use Rattle.lsm_codec.specs.Lists.{Has}
use Rattle.lsm_merge.specs.Work.{Work}
use Rattle.lsm_script.proofs.held.index_of_job.Given as goal

abbrev pub invariant-loop-i : goal.invariant-loop-i
invariant-loop-i g l = (w : Work) → Has (take l.i l.jobs) w → w.ticket ≡ l.ticket → ⊥
