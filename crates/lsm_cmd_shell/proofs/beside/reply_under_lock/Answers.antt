use Rattle.std.proofs.Common.{refl}
use Rattle.std.proofs.Math.Logic.{∥∥₁_map}
use Rattle.lsm_script.specs.Steps.{stage}
use Rattle.lsm_cmd_shell.specs.Batching.{standing}
use Rattle.lsm_cmd_shell.proofs.beside.reply_under_lock.Goals as goal

pub invariant_of-deref_mut : goal.invariant_of-deref_mut
invariant_of-deref_mut g c =
    let kept = c.requires.kept in
    let r = c.reply_lent.ensures.replied kept.0 kept.1 in
    record {
      kept = ∥∥₁_map c.deref_mut.result.now.kept (kept.2 r.0 (standing (stage c.deref_mut.result.now.state c.args.desk.now c.args.shelf.now) c.args.begun.now)
          (standing (stage c.reply_lent.new.state c.reply_lent.new.desk c.reply_lent.new.shelf) c.reply_lent.new.begun) refl r.1);
    }

pub returns : goal.returns
returns g c = record {
  replied = λ line is. (
      let r = c.reply_lent.ensures.replied line is in (
        r.0,
        record {
          lent = c.deref_mut.result.now.state;
          back = c.reply_lent.new.state;
          kept = c.deref_mut.result.now.kept;
          has = c.reply_lent.ensures.lent;
          replied = r.1;
          known = c.reply_lent.ensures.known;
        },
        r.2,
      )
      );
}
