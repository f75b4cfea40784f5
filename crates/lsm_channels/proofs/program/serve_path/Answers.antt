use Rattle.std.proofs.Common.{inl, inr, refl}
use Rattle.lsm_directory.specs.Folders.{stored_at, told_by}
use Rattle.lsm_folder.specs.Calls.{AreHonest}
use Rattle.lsm_shelf.specs.Refusals.{MayRefuse}
use Rattle.lsm_shelf.specs.Told.{fresh}
use Rattle.lsm_channels.proofs.RunLaws.{back_as, err_at, ok_at, served_as, told_there, unserved_as}
use Rattle.lsm_channels.proofs.program.serve_path.Goals as goal

pub returns-in-Err-clause-back : goal.returns-in-Err-clause-back
returns-in-Err-clause-back g c = inl refl

pub returns-in-Ok-done-clause-served : goal.returns-in-Ok-done-clause-served
returns-in-Ok-done-clause-served g c =
    let new = told_there g.C.FolderCalls c.in-Ok.found.0 c.in-Ok-fork.fork c.over-shelf.result
    c.in-Ok-fork.ensures.fork.1 c.over-shelf.ensures.fresh in
    record {
      start = c.in-Ok.found.1.start;
      logs = c.in-Ok.found.1.logs.items;
      allowed = c.in-Ok.ensures.allowed;
      ready = c.in-Ok.ensures.ready;
      ended = c.serve_on-done.result.1;
      served = served_as _ _ _ _ _ _ _ _ _ _ _ _ _ _ c.requires.channels c.requires.workers new
          (ok_at _ c.serve_on-done.result.0 c.in-Ok-done.wires c.in-Ok-done.is
          c.serve_on-done.ensures.served);
    }

pub returns-in-Err-done-clause-refused : goal.returns-in-Err-done-clause-refused
returns-in-Err-done-clause-refused g c =
    let start = c.in-Ok.found.1.start in
    let logs = c.in-Ok.found.1.logs.items in
    let new = told_there g.C.FolderCalls c.in-Ok.found.0 c.in-Ok-fork.fork c.over-shelf.result
    c.in-Ok-fork.ensures.fork.1 c.over-shelf.ensures.fresh in
    inr (inr record {
      start = start;
      logs = logs;
      allowed = c.in-Ok.ensures.allowed;
      folder = c.in-Ok.found.0;
      ready = c.in-Ok.ensures.ready;
      ended = c.serve_on-done.result.1;
      refused = unserved_as (stored_at g.C.FolderCalls g.C.Mark.Mark) MayRefuse
          (AreHonest g.C.FolderCalls.calls) c.args.plan.channels c.args.opening.now.channels start
          logs c.in-Err-done.unserved.fault (told_by g.C.FolderCalls c.over-shelf.result)
          (fresh (g.C.FolderCalls.place c.in-Ok.found.0))
          (told_by g.C.FolderCalls c.serve_on-done.result.1) c.requires.channels new
          (err_at _ c.serve_on-done.result.0 c.in-Err-done.unserved c.in-Err-done.is
          c.serve_on-done.ensures.refused);
    })

pub returns-in-Err-done-clause-back : goal.returns-in-Err-done-clause-back
returns-in-Err-done-clause-back g c =
    back_as _ _ _ (err_at _ c.serve_on-done.result.0 c.in-Err-done.unserved c.in-Err-done.is
    c.serve_on-done.ensures.back)
