use Rattle.std.proofs.Common.{inl, refl}
use Rattle.lsm_script.specs.Steps.{stage}
use Rattle.lsm_cmd_shell.specs.Batching.{standing}
use Rattle.lsm_cmd_shell.proofs.BatchLaws.{put_alone, put_queued}
use Rattle.lsm_cmd_shell.proofs.batching.put.Goals as goal

pub returns : goal.returns
returns g c =
    let r = c.answer.ensures in (
      r.0,
      put_alone g.S.Shelf.honest c.args.form c.args.write c.args.begun.now r.0 (standing (stage c.args.state.now c.args.desk.now c.args.shelf.now) c.args.begun.now)
          (standing (stage c.answer.new.state c.answer.new.desk c.answer.new.shelf) c.args.begun.now) c.in_default.is c.in_default.is (inl (c.in-Ok.batch, r.1, c.in-Ok.ensures, r.2, r.3)),
      r.4,
    )

pub returns-in-Some : goal.returns-in-Some
returns-in-Some g c =
    let r = c.queue.ensures in
    let here = standing (stage c.args.state.now c.args.desk.now c.args.shelf.now) c.args.begun.now in (
      r.0,
      put_queued g.S.Shelf.honest c.args.form c.args.write c.args.begun.now c.in-Some.buffer c.queue.new.buffer r.0 here _ c.in-Some.is refl refl r.1,
      r.2,
    )
