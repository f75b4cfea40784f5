use Rattle.std.proofs.Common.{inl}
use Rattle.lsm_script.specs.Steps.{stage}
use Rattle.lsm_cmd_shell.proofs.RoundLaws.{installed, uninstalled}
use Rattle.lsm_cmd_shell.proofs.rounds.try_to_finish.Goals as goal

pub returns-in-Ok : goal.returns-in-Ok
returns-in-Ok g c =
    let merged = rw c.in-Ok.is at c.try_to.ensures.ok in
    let s = stage c.args.state.now c.args.desk.now c.args.shelf.now in
    let m = stage c.try_to.new.state c.try_to.new.desk c.try_to.new.shelf in
    let t = stage c.try_to-in-Ok.new.state c.try_to-in-Ok.new.desk c.try_to-in-Ok.new.shelf in
    record {
      ok = installed g.S.Shelf.honest c.args.ticket c.try_to-in-Ok.result s m t merged c.try_to-in-Ok.ensures.ok;
      err = uninstalled g.S.Shelf.honest c.args.ticket c.try_to-in-Ok.result s m t merged c.try_to-in-Ok.ensures.err;
    }

pub returns-clause-err : goal.returns-clause-err
returns-clause-err g c = inl (rw c.in-Err.is at c.try_to.ensures.err)
