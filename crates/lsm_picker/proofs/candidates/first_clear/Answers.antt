-- Each table on that side is tried in its turn, and the first whose plan is clear is taken.
use Rattle.std.proofs.Common.{◌≡◌, ◌<◌, ◌≤◌, ◌∙◌, [], ◌∷◌, List, Option, IfSome, ap, length, get_or, subst}
use Rattle.std.specs.Prelude.{MatchOption}
use Rattle.lsm_codec.specs.Lists.{Has}
use Rattle.lsm_table.specs.Registry.{Table}
use Rattle.lsm_version.specs.Versions.{file_of, level_in}
use Rattle.lsm_picker.specs.Choice.{IsBlockedAt}
use Rattle.lsm_picker.specs.Reservations.{IsClear}
use Rattle.lsm_picker.specs.TablePlans.{IsPlanFrom, TablePlan}
use Rattle.lsm_picker.proofs.Planning.{has_item}
use Rattle.lsm_picker.proofs.Choosing.{first_clear_is, tried_all, tried_more, tried_skip}
use Rattle.lsm_picker.proofs.candidates.first_clear.Goals as goal
use Rattle.lsm_picker.proofs.candidates.first_clear.Goals.{then-is_on_side+in_ok-plan+in_default, else-is_on_side}

pub clear_plan-requires-clause-stands : goal.clear_plan-requires-clause-stands
clear_plan-requires-clause-stands g c κs within =
    let same = c.level-tables.ensures ∙ ap (level_in c.args.version.now.tables) c.from.ensures in
    subst (λ (ts : List Table). Has ts c.table-item.result) same (has_item c.level-tables.result.now c.loop-table.table-index c.table-item.result c.loop-table-test.true c.table-item.is)

pub returns-in-Some-clause-first : goal.returns-in-Some-clause-first
returns-in-Some-clause-first g c = λ h.
    let v = c.args.version.now in
    let rs = c.args.reservations.now in
    let level = c.args.level in
    let i = c.loop-table.table-index in
    let x = c.table-item.result in
    let p = c.in-Some.plan in
    let same = c.level-tables.ensures ∙ ap (level_in v.tables) c.from.ensures in
    let lt : i < length (level_in v.tables level) = subst (λ (ts : List Table). i < length ts) same c.loop-table-test.true in
    let is : x ≡ get_or (level_in v.tables level) i x = subst (λ (ts : List Table). x ≡ get_or ts i x) same c.table-item.is in
    let at : p.level ≡ level = subst (λ (o : Option TablePlan). IfSome o (λ q. q.level ≡ level)) c.in-Some.is c.in_ok-plan.ensures.level in
    let planned : IsPlanFrom v (Has (file_of level x ∷ [])) p
    = subst (λ (o : Option TablePlan). MatchOption o (IsBlockedAt v rs level x) (λ q. IsPlanFrom v (Has (file_of level x ∷ [])) q)) c.in-Some.is (c.in_ok-plan.ensures.plan h) in
    let clear : IsClear p rs = subst (λ (o : Option TablePlan). IfSome o (λ q. IsClear q rs)) c.in-Some.is c.in_ok-plan.ensures.clear in
    first_clear_is v rs level c.args.beyond i x p lt is (c.is_on_side.ensures.0 c.if-is_on_side.true) at planned clear (c.loop-table.invariant h)

pub loop-table-preserved : goal.loop-table-preserved
loop-table-preserved g c = λ h.
    let v = c.args.version.now in
    let rs = c.args.reservations.now in
    let level = c.args.level in
    let i = c.loop-table.table-index in
    let x = c.table-item.result in
    let same = c.level-tables.ensures ∙ ap (level_in v.tables) c.from.ensures in
    let is : x ≡ get_or (level_in v.tables level) i x = subst (λ (ts : List Table). x ≡ get_or ts i x) same c.table-item.is in
    elim c.if-is_on_side.branch [
      | then-is_on_side+in_ok-plan+in_default w ↦ tried_more v rs level c.args.beyond i x is
          (subst (λ (o : Option TablePlan). MatchOption o (IsBlockedAt v rs level x) (λ q. IsPlanFrom v (Has (file_of level x ∷ [])) q)) w.in_default.is (w.in_ok-plan.ensures.plan h))
          (c.loop-table.invariant h)
      | else-is_on_side w ↦ tried_skip v rs level c.args.beyond i x is (λ on. (let yes = c.is_on_side.ensures.1 on in let off = w.if-is_on_side.false in absurd (cc (yes, off)))) (c.loop-table.invariant h)
    ]

pub returns-clause-first : goal.returns-clause-first
returns-clause-first g c = λ h.
    let v = c.args.version.now in
    let same = c.level-tables.ensures ∙ ap (level_in v.tables) c.from.ensures in
    let past : length (level_in v.tables c.args.level) ≤ c.loop-table.table-index = subst (λ (ts : List Table). length ts ≤ c.loop-table.table-index) same c.loop-table-test.false in
    tried_all v c.args.reservations.now c.args.level c.args.beyond c.loop-table.table-index past (c.loop-table.invariant h)
