use Rattle.std.proofs.Common.{inl, sym, ◌∙◌}
use Rattle.lsm_script.specs.Steps.{stage}
use Rattle.lsm_cmd_shell.specs.Batching.{standing}
use Rattle.lsm_cmd_shell.proofs.BatchLaws.{committed}
use Rattle.lsm_cmd_shell.proofs.batching.commit.Goals as goal

pub returns : goal.returns
returns g c =
    let r = c.answer.ensures in (
      r.0,
      committed g.S.Shelf.honest c.args.form c.args.begun.now c.in-Some.buffer r.0 (standing (stage c.args.state.now c.args.desk.now c.args.shelf.now) c.args.begun.now)
          (standing (stage c.answer.new.state c.answer.new.desk c.answer.new.shelf) c.take.new.self) (sym c.take.ensures.value ∙ c.in-Some.is) c.take.ensures.after
          (inl (c.in-Ok.batch, r.1, c.in-Ok.ensures.last, r.2, r.3)),
      r.4,
    )
