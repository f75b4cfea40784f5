use Rattle.std.proofs.Common.{◌∙◌, List, true, false, ap, inl, inr, subst, sym}
use Rattle.std.specs.List.Sorted.{IsSortedBy}
use Rattle.std.specs.Prelude.{◌==◌}
use Rattle.std.proofs.lemmas.Bool.{cases_Bool, eq-eqb, eqb-true}
use Rattle.lsm_table.specs.Registry.{Table}
use Rattle.lsm_version.specs.Changes.{coming, placed_all, placed_in}
use Rattle.lsm_version.specs.Versions.{stands_before}
use Rattle.lsm_version.proofs.Changing.{coming_more}
use Rattle.lsm_version.proofs.change.insert_all.Goals as goal
use Rattle.lsm_version.proofs.change.insert_all.Goals.{then-one-number+in_ok-insert, else-one-number}

pub loop-one-preserved : goal.loop-one-preserved
loop-one-preserved g c =
    let n = c.args.number in
    let a = c.one-item.result in
    let us = c.loop-one.level.items in
    let whole = placed_all (coming n c.args.added.now) c.args.level.now.items in
    elim c.if-one-number.branch [
      | then-one-number+in_ok-insert w ↦ record {
        placed = coming_more n c.loop-one.one-index c.args.added.now a true us c.if-one-number.level.items whole c.loop-one-test.true c.one-item.is (eq-eqb a.0 n w.if-one-number.true)
            (ap (λ v. v.items) w.level-is ∙ w.in_ok-insert.ensures.ok ∙ ap (λ (t : Table). placed_in t us) w.again.ensures) c.loop-one.invariant.placed;
        order = subst (λ (ts : List Table). IsSortedBy stands_before ts) (sym (ap (λ v. v.items) w.level-is)) w.insert.ensures.order;
      }
      | else-one-number w ↦ record {
        placed = coming_more n c.loop-one.one-index c.args.added.now a false us c.if-one-number.level.items whole c.loop-one-test.true c.one-item.is
            (elim (cases_Bool (a.0 == n)) [ inl t ↦ absurd (w.if-one-number.false (eqb-true a.0 n t)) | inr f ↦ f ])
            (ap (λ v. v.items) w.level-is) c.loop-one.invariant.placed;
        order = subst (λ (ts : List Table). IsSortedBy stands_before ts) (sym (ap (λ v. v.items) w.level-is)) c.loop-one.invariant.order;
      }
    ]
