use Rattle.std.proofs.Common.{refl, sym, ◌∙◌}
use Rattle.lsm_merge.specs.Outputs.{entries_of_last}
use Rattle.lsm_merge.specs.PutBefore.{IsClosing}
use Rattle.lsm_merge.proofs.PutBefore.{one_when}
use Rattle.lsm_merge.proofs.PutLaws.{on_err}
use Rattle.lsm_merge.proofs.outputs.Outputs.close_before.Goals as goal

pub returns-clause-stands : goal.returns-clause-stands
returns-clause-stands g c =
    let m = c.args.self.now in
    on_err c.put_last.result
    (one_when m.options m.options (entries_of_last m.last) (Unit {0}) (IsClosing m c.args.user.now) m.put c.put_last.new.self.put c.args.shelf.now c.put_last.new.shelf refl
    (λ u. sym c.closes.ensures ∙ c.if-not-closes.false))
    c.put_last.ensures.stands
