use Rattle.std.proofs.Common.{◌+◌, List, ℕ, refl, subst}
use Rattle.lsm_storage.specs.Plans.{WriteStopped}
use Rattle.lsm_repair.proofs.repairing.begin.Goals as goal

pub returns-in-Err-clause-refused : goal.returns-in-Err-clause-refused
returns-in-Err-clause-refused g c = (
  c.in-Err.fault,
  refl,
  subst (λ (bytes : List ℕ). WriteStopped (c.args.number + 1) bytes c.in-Err.fault
      (g.C.FolderCalls.calls c.args.folder.now)
      (g.C.FolderCalls.calls c.begin_manifest.new.folder)) c.deref.ensures.value
      c.in-Err.ensures.err,
)
