use Rattle.lsm_theorems.proofs.CallLaws.{one_kept_so}
use Rattle.lsm_theorems.proofs.pins.what_a_view_holds_is_not_removed.Goals as goal

pub returns : goal.returns
returns g c =
    one_kept_so (λ v. v.items) _ c.remove_unkept-gone.result c.meet-held.result c.args.state.now c.meet-held.new.state c.args.number c.args.shelf.now c.remove_unkept-gone.new.shelf
    c.args.view.now c.remove_unkept-gone.ensures.ok c.meet-held.ensures.kept c.meet-held.ensures.met c.meet-held.ensures.rest
