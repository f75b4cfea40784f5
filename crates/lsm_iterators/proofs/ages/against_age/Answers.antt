use Rattle.std.proofs.Common.{rules, ◌≡◌, IfOk, MatchOption, subst}
use Rattle.lsm_model.specs.Ages.{IsAgeOrder, IsLeastAgainstAge}
use Rattle.lsm_model.specs.Merging.{IsOrdered}
use Rattle.lsm_iterators.specs.Runs.{Left}
use Rattle.lsm_iterators.proofs.ages.against_age.Goals as goal

pub returns-clause-judged : goal.returns-clause-judged
returns-clause-judged g c =
    let same : c.new-walk.result.left ≡ c.args.merger.now = search rules in
    subst (λ (l : Left). g.S.Shelf.honest → IsOrdered l.placed → IfOk c.found_by-found.result (λ r. MatchOption r (IsAgeOrder l.placed) (λ k. IsLeastAgainstAge l.placed k))) same c.found_by-found.ensures.judged
