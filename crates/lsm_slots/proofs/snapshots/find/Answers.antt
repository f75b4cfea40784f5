use Rattle.std.proofs.Common.{ℕ, get_or, subst, sym}
use Rattle.std.proofs.lemmas.List.{take_all}
use Rattle.lsm_codec.specs.Lists.{Has}
use Rattle.lsm_slots.proofs.SnapshotLaws.{at_has, none_more}
use Rattle.lsm_slots.proofs.snapshots.find.Goals as goal

pub returns-then-one-id-clause-some : goal.returns-then-one-id-clause-some
returns-then-one-id-clause-some c =
    let at : ℕ × ℕ = get_or c.args.taken.now c.loop-one.one-index (0, 0) in
    subst (λ i. Has c.args.taken.now (i, at.1)) c.if-one-id.true (at_has c.args.taken.now c.loop-one.one-index (0, 0) c.loop-one-test.true)

pub loop-one-preserved : goal.loop-one-preserved
loop-one-preserved c = none_more c.args.taken.now c.loop-one.one-index c.args.id (0, 0) c.loop-one-test.true c.loop-one.invariant c.if-one-id.false

pub returns-clause-none : goal.returns-clause-none
returns-clause-none c h = c.loop-one.invariant h.0 (subst (λ ps. Has ps h.0) (sym (take_all c.loop-one.one-index c.args.taken.now c.loop-one-test.false)) h.1) h.2
