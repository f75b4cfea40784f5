use Rattle.std.proofs.Common.{inl, inr, refl}
use Rattle.lsm_directory.proofs.CallerLemmas.{keeps_same}
use Rattle.lsm_repair.specs.declared.mend_fault.MendFault.TheVariants.{OutOfMemory}
use Rattle.lsm_cmd_repair.specs.declared.repair_fault.RepairFault.TheVariants.{Mend}
use Rattle.lsm_cmd_repair.specs.Repaired.{FailsToRepair, RepairsAt}
use Rattle.lsm_cmd_repair.specs.declared.repair_fault.RepairFault.{RepairFault}
use Rattle.lsm_cmd_repair.proofs.RunLaws.{done_run, refused_run, repairs_kept}
use Rattle.lsm_cmd_repair.proofs.program.run_repair.Goals as goal

pub returns-in-Err-clause-refused : goal.returns-in-Err-clause-refused
returns-in-Err-clause-refused g c = λ other. (
  c.refuse.ensures,
  (
    Mend OutOfMemory,
    inl (
      keeps_same (g.O.Write.contents c.args.out.now),
      inr (OutOfMemory, refl, inl refl),
    ),
  ),
)

pub returns-clause-refused : goal.returns-clause-refused
returns-clause-refused g c =
    refused_run c.repair_at-done.result c.status_of.result
    (λ (x : RepairFault). FailsToRepair g.C.FolderCalls g.C.Mark.Mark c.args.path.now x
    (g.O.Write.contents c.args.out.now) (g.O.Write.contents c.repair_at-done.new.out))
    c.status_of.ensures.ok c.status_of.ensures.err c.repair_at-done.ensures.refused

pub returns-clause-done : goal.returns-clause-done
returns-clause-done g c =
    done_run c.repair_at-done.result c.status_of.result
    (g.E.Write.contents c.repair_at-done.new.err) (g.E.Write.contents c.status_of.new.err)
    (RepairsAt g.C.FolderCalls g.C.Mark.Mark c.args.path.now (g.O.Write.contents c.args.out.now)
    (g.O.Write.contents c.repair_at-done.new.out) (g.E.Write.contents c.args.err.now))
    c.status_of.ensures.err c.repair_at-done.ensures.done c.status_of.ensures.quiet
    (repairs_kept g.C.FolderCalls g.C.Mark.Mark c.args.path.now (g.O.Write.contents c.args.out.now)
    (g.O.Write.contents c.repair_at-done.new.out) (g.E.Write.contents c.args.err.now)
    (g.E.Write.contents c.repair_at-done.new.err) (g.E.Write.contents c.status_of.new.err))
