use Rattle.std.proofs.Common.{◌≡◌, of_calls, rules, subst, IfErr, IfOk}
use Rattle.lsm_state.specs.Held.{Held}
use Rattle.lsm_script.specs.Replies.{IsMerged, IsRefusedMerge}
use Rattle.lsm_script.proofs.Drawings.{all_merged, all_refused, drawn_begins, drawn_keeps}
use Rattle.lsm_script.proofs.merging.merge_job.Goals as goal

pub merge_with-requires-clause-begins : goal.merge_with-requires-clause-begins
merge_with-requires-clause-begins g c κs within = drawn_begins c.of-numbers.result.state.now

pub merge_with-requires-clause-keeps : goal.merge_with-requires-clause-keeps
merge_with-requires-clause-keeps g c κs within = λ p q t r drew refused asked lt h gives. drawn_keeps c.of-numbers.result.state.now p.now q.now t r drew refused asked lt h (search (of_calls, rules))

pub returns-clause-ok : goal.returns-clause-ok
returns-clause-ok g c =
    let H = g.S.Shelf.honest in
    let made = c.merge_with in
    let name = made.ensures.loan in
    let start : c.of-numbers.result.state.now ≡ c.args.state.now = search rules in
    subst (λ (h : Held). IfOk made.result (λ d. IsMerged H c.args.job d c.args.state.now h c.args.shelf.now made.new.shelf)) (search rules)
    (subst (λ (h : Held). IfOk made.result (λ d. IsMerged H c.args.job d h made.new.numbers.state.now c.args.shelf.now made.new.shelf)) start
    (all_merged H c.of-numbers.result.state.now made.new.numbers.state.now c.args.job made.result c.args.shelf.now made.new.shelf made.ensures.ok))

pub returns-clause-err : goal.returns-clause-err
returns-clause-err g c =
    let H = g.S.Shelf.honest in
    let made = c.merge_with in
    let name = made.ensures.loan in
    let start : c.of-numbers.result.state.now ≡ c.args.state.now = search rules in
    subst (λ (h : Held). IfErr made.result (λ e. IsRefusedMerge H c.args.job e c.args.state.now h c.args.shelf.now made.new.shelf)) (search rules)
    (subst (λ (h : Held). IfErr made.result (λ e. IsRefusedMerge H c.args.job e h made.new.numbers.state.now c.args.shelf.now made.new.shelf)) start
    (all_refused H c.of-numbers.result.state.now made.new.numbers.state.now c.args.job made.result c.args.shelf.now made.new.shelf made.ensures.err))
