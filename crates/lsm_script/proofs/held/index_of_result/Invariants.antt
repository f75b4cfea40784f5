use Rattle.std.proofs.Common.{◌≡◌, take}
use Rattle.lsm_codec.specs.Lists.{Has}
use Rattle.lsm_merge.specs.Work.{Done}
use Rattle.lsm_script.proofs.held.index_of_result.Given as goal

abbrev pub invariant-loop-i : goal.invariant-loop-i
invariant-loop-i g l = (d : Done) → Has (take l.i l.results) d → d.work.ticket ≡ l.ticket → ⊥
