use Rattle.std.proofs.Common.{◌≡◌, ◌∙◌, List, length, map, ap, sym, subst, arith, refl}
use Rattle.std.proofs.lemmas.Bool.{eqb-true, eqb-false}
use Rattle.std.proofs.lemmas.List.{length-map}
use Rattle.lsm_table.specs.Registry.{Table}
use Rattle.lsm_model.specs.Merging.{merge_all}
use Rattle.lsm_query.specs.Runs.{AreMergeable, IsNumberIn}
use Rattle.lsm_verify.specs.Chosen.{chosen}
use Rattle.lsm_verify.specs.Settled.{IsOneUnsettled}
use Rattle.lsm_version.specs.Versions.{files_from}
use Rattle.lsm_verify.proofs.AgeLaws.{all_settled, looked_none, looked_some, not_settled}
use Rattle.lsm_verify.proofs.Chosen.{chosen_unsettled}
use Rattle.lsm_query.proofs.CallerLemmas.{names_as}
use Rattle.lsm_verify.proofs.Chosen.{chosen_mergeable, length-chosen}
use Rattle.lsm_verify.proofs.ages.judge_ages.Goals as goal

pub look_again-requires-clause-seven : goal.look_again-requires-clause-seven
look_again-requires-clause-seven g c κs within =
    ap length c.in_ok-chosen.ensures
    ∙ length-chosen c.args.unsettled.now (map (λ l. l.items) c.args.levels.now) ∙ length-map c.args.levels.now (λ l. l.items) ∙ c.requires.seven

pub look_again-requires-clause-mergeable : goal.look_again-requires-clause-mergeable
look_again-requires-clause-mergeable g c κs within = λ h.
    subst AreMergeable (sym c.in_ok-chosen.ensures) (chosen_mergeable c.args.unsettled.now (map (λ l. l.items) c.args.levels.now) c.requires.mergeable)

pub returns-then-is_empty-clause-ok : goal.returns-then-is_empty-clause-ok
returns-then-is_empty-clause-ok g c = λ h.
    let none : length c.args.unsettled.now ≡ 0 = eqb-true (length c.args.unsettled.now) 0 (sym c.is_empty.ensures ∙ c.if-is_empty.true) in
    all_settled (map (λ l. l.items) c.args.levels.now) c.args.unsettled.now c.requires.unsettled c.requires.fits none

pub returns-in-Ok-None-clause-ok : goal.returns-in-Ok-None-clause-ok
returns-in-Ok-None-clause-ok g c = λ h.
    let levels : List (List Table) = map (λ l. l.items) c.args.levels.now in
    let some : c.in_ok-chosen.chosen ≡ chosen c.args.unsettled.now levels = c.in_ok-chosen.ensures in
    let judged = rw c.in-Ok-None.field-0-is at (c.in-Ok-None.ensures.judged h) in
    looked_none c.args.unsettled.now levels c.in_ok-chosen.chosen judged.0 (merge_all judged.0) c.requires.unsettled some judged.1 c.requires.fits refl (λ o. judged.2)

pub returns-in-Ok-Some-clause-refused : goal.returns-in-Ok-Some-clause-refused
returns-in-Ok-Some-clause-refused g c =
    let levels : List (List Table) = map (λ l. l.items) c.args.levels.now in
    let some : c.in_ok-chosen.chosen ≡ chosen c.args.unsettled.now levels = c.in_ok-chosen.ensures in
    let some_there : length c.args.unsettled.now ≡ 0 → ⊥ = λ e. (let ne = eqb-false (length c.args.unsettled.now) 0 (sym c.is_empty.ensures ∙ c.if-is_empty.false) in absurd (omega (arith, ne, e))) in (
      not_settled levels c.args.unsettled.now c.requires.unsettled some_there,
      λ h. (let judged = rw c.in-Ok-Some.field-0-is at (c.in-Ok-Some.ensures.judged h) in
          looked_some c.args.unsettled.now levels c.in_ok-chosen.chosen judged.0 (merge_all judged.0) c.in-Ok-Some.user c.requires.unsettled some judged.1 c.requires.fits refl (λ o. judged.2)),
    )

pub returns-clause-refused : goal.returns-clause-refused
returns-clause-refused g c =
    let levels : List (List Table) = map (λ l. l.items) c.args.levels.now in
    let some : c.in_ok-chosen.chosen ≡ chosen c.args.unsettled.now levels = c.in_ok-chosen.ensures in (
      names_as (IsNumberIn c.in_ok-chosen.chosen) (IsOneUnsettled (files_from 0 levels)) c.in-Err.unread.file c.in-Err.unread.fault
          (λ n. chosen_unsettled c.args.unsettled.now levels c.in_ok-chosen.chosen n c.requires.unsettled some) c.in-Err.ensures.number,
      λ h. c.in-Err.ensures.sound h,
    )
