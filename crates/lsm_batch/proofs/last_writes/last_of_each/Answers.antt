use Rattle.std.proofs.Common.{◌≡◌, ◌++◌, ◌∷◌, [], sym, ◌∙◌, subst, rules}
use Rattle.lsm_batch.proofs.LastLaws.{HasKept, kept_batch, kept_none, kept_with, kept_without}
use Rattle.lsm_batch.proofs.last_writes.last_of_each.Goals as goal

pub writes-init : goal.writes-init
writes-init c = kept_none c.args.writes.items c.in_ok-left.left.items c.new-batch.result c.new-batch.ensures c.in_ok-left.ensures.order c.in_ok-left.ensures.same c.in_ok-left.ensures.last

pub writes-preserved-in-Continue-branch-2 : goal.writes-preserved-in-Continue-branch-2
writes-preserved-in-Continue-branch-2 c =
    let popped : c.writes.left.items ≡ c.pop.new.self.items ++ c.in-Some.write ∷ [] = c.in-Some.ensures.items in
    kept_with c.args.writes.items c.pop.new.self.items c.writes.batch c.push.new.self c.in-Some.write
    (subst (λ l. HasKept c.args.writes.items l c.writes.batch) popped c.writes.invariant)
    (λ front v is same. c.ends_with.ensures.no c.if-not-ends_with.true front v is (same ∙ sym c.as_slice.ensures)) c.in_ok-push.ensures.ok

pub writes-preserved-else-not-ends_with : goal.writes-preserved-else-not-ends_with
writes-preserved-else-not-ends_with c =
    let popped : c.writes.left.items ≡ c.pop.new.self.items ++ c.in-Some.write ∷ [] = c.in-Some.ensures.items in
    let later = c.ends_with.ensures.yes c.if-not-ends_with.false in
    kept_without c.args.writes.items c.pop.new.self.items c.writes.batch c.in-Some.write later.0
    (subst (λ l. HasKept c.args.writes.items l c.writes.batch) popped c.writes.invariant) later.1 (later.2 ∙ c.as_slice.ensures)

pub writes-preserved : goal.writes-preserved
writes-preserved c =
    let popped : c.writes.left.items ≡ c.pop.new.self.items ++ c.in-Some.write ∷ [] = c.in-Some.ensures.items in
    let later = c.ends_with.ensures.yes c.if-not-ends_with.false in
    kept_without c.args.writes.items c.pop.new.self.items c.writes.batch c.in-Some.write later.0
    (subst (λ l. HasKept c.args.writes.items l c.writes.batch) popped c.writes.invariant) later.1 (later.2 ∙ c.as_slice.ensures)

pub returns-clause-batch : goal.returns-clause-batch
returns-clause-batch c = λ some fits. kept_batch c.args.writes.items c.writes.left.items c.writes.batch c.writes.invariant (search rules) some fits
