use Rattle.std.proofs.Common.{sym, ◌∙◌}
use Rattle.lsm_requests.specs.KeyBounds.{has_passed, has_reached}
use Rattle.lsm_requests.proofs.KeyBoundLaws.{none_later, or_left, or_right}
use Rattle.lsm_requests.proofs.key_bounds.KeyBounds.ends_at.Goals as goal

pub returns-then-has_reached-clause-none : goal.returns-then-has_reached-clause-none
returns-then-has_reached-clause-none c = λ yes.
    let bounds = c.args.self.now in
    let key = c.args.key.now in
    none_later bounds key (or_left (has_reached bounds.to key) (has_passed bounds.prefix key) (sym c.has_reached.ensures ∙ yes))

pub returns-else-has_reached-clause-none : goal.returns-else-has_reached-clause-none
returns-else-has_reached-clause-none c = λ yes.
    let bounds = c.args.self.now in
    let key = c.args.key.now in
    none_later bounds key (or_right (has_reached bounds.to key) (has_passed bounds.prefix key) (sym c.has_passed.ensures ∙ yes))
