use Rattle.std.proofs.Common.{◌≡◌, ◌∙◌, All, ap, subst}
use Rattle.std.proofs.lemmas.List.Elements.{All-head, All-push, All-rest, All-same}
use Rattle.lsm_shelf.specs.Told.{Told}
use Rattle.lsm_cmd_read.proofs.seeing.mirrors_of.Goals as goal

pub loop-shelf-preserved : goal.loop-shelf-preserved
loop-shelf-preserved g c = record {
  rest = All-rest (λ s. (g.S.Shelf.told s).place ≡ g.V.Mirroring.place) c.in-Some.shelf _ _
      c.in-Some.ensures.steps.0 c.loop-shelf.invariant.rest;
  made = All-same (λ (m : Told). m.place ≡ g.V.Mirroring.place) _ _ c.in_ok-push.ensures.items
      (All-push (λ (m : Told). m.place ≡ g.V.Mirroring.place) _ c.of-mirror.result
      c.loop-shelf.invariant.made
      (ap (λ (t : Told). t.place) c.of-mirror.ensures
      ∙ All-head (λ s. (g.S.Shelf.told s).place ≡ g.V.Mirroring.place) c.in-Some.shelf _
      (subst (All (λ s. (g.S.Shelf.told s).place ≡ g.V.Mirroring.place))
      c.in-Some.ensures.steps.0 c.loop-shelf.invariant.rest)));
}
