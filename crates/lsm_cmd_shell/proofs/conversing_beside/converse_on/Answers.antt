use Rattle.std.proofs.Common.{ap, inl, inr, subst}
use Rattle.std.proofs.KnownBytes.{Keeps-refl}
use Rattle.lsm_cmd_shell.proofs.BesideLaws.{worked_beside}
use Rattle.lsm_cmd_shell.specs.declared.shell_fault.ShellFault.TheVariants.{Run}
use Rattle.lsm_state.specs.Held.{Held}
use Rattle.lsm_store.specs.Compacting.{IsSeated}
use Rattle.lsm_cmd_shell.proofs.conversing_beside.converse_on.Goals as goal

pub of-store-requires-clause-kept : goal.of-store-requires-clause-kept
of-store-requires-clause-kept g c κs within = λ h seated. c.requires.found h
    (subst (λ (s : Held). IsSeated s h) c.remember-memory.ensures.same seated)

pub returns-in-Some-clause-ended : goal.returns-in-Some-clause-ended
returns-in-Some-clause-ended g c =
    worked_beside g.S.Shelf.honest (g.S.Shelf.refuses g.N.Naming.place) g.K.Invariant.keeps
    g.N.Naming.place c.args.shelf.now.forks c.args.workers c.in-Ok.made.shelves.items
    c.in-Some.ended.1.items c.in-Ok.ensures.new
    c.in-Some.ensures.ended

pub returns-in-Some-clause-just : goal.returns-in-Some-clause-just
returns-in-Some-clause-just g c = (c.in-Ok.ensures.just, rw c.in-Ok.is at c.of.ensures.counts)

pub returns-in-Err-clause-refused : goal.returns-in-Err-clause-refused
returns-in-Err-clause-refused g c =
    inl (
      c.in-Err.fault,
      c.in-Err.ensures.cause,
      ap Run c.of_shelf.ensures,
      (c.in-Err.ensures.fewer, rw c.in-Err.is at c.of.ensures.counts),
      Keeps-refl _,
    )

pub returns-in-None-clause-refused : goal.returns-in-None-clause-refused
returns-in-None-clause-refused g c =
    inr (c.of_writer.ensures, (c.in-Ok.ensures.just, rw c.in-Ok.is at c.of.ensures.counts))
