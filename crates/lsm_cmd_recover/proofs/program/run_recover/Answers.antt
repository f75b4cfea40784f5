use Rattle.std.proofs.Common.{inl, refl}
use Rattle.lsm_directory.proofs.CallerLemmas.{keeps_same}
use Rattle.lsm_recovery.specs.declared.bring_fault.BringFault.TheVariants.{OutOfMemory}
use Rattle.lsm_cmd_recover.specs.declared.recover_fault.RecoverFault.TheVariants.{Logs}
use Rattle.lsm_cmd_recover.proofs.program.run_recover.Goals as goal

pub returns-in-Err-clause-refused : goal.returns-in-Err-clause-refused
returns-in-Err-clause-refused g c = λ other. (
  c.refuse.ensures,
  (Logs OutOfMemory, (keeps_same (g.O.Write.contents c.args.out.now), inl (inl refl))),
)
