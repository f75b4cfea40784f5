use Rattle.lsm_theorems.proofs.CallLaws.{kept_so}
use Rattle.lsm_theorems.proofs.pins.what_a_view_holds_is_kept.Goals as goal

pub returns : goal.returns
returns g c =
    kept_so (λ v. v.items) (λ v. v.items) _ _ c.collect-removed.result c.meet-held.result c.collect-removed.new.self c.meet-held.new.state c.args.shelf.now c.collect-removed.new.shelf
    c.args.view.now c.collect-removed.ensures.ok c.meet-held.ensures.kept c.meet-held.ensures.met c.meet-held.ensures.rest
