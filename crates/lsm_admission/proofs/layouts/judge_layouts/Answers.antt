use Rattle.std.proofs.Common.{◌≡◌, List, map, arith, sym, ◌∙◌, subst}
use Rattle.std.specs.List.Sorted.{IsSortedBy}
use Rattle.lsm_table.specs.Registry.{Table}
use Rattle.lsm_version.specs.Versions.{stands_before, level_in}
use Rattle.lsm_admission.specs.FoundTables.{AreBounded}
use Rattle.lsm_verify.specs.LevelLayouts.{LieAs}
use Rattle.lsm_model.specs.declared.key_range.Layout.{Layout}
use Rattle.lsm_model.specs.declared.key_range.Layout.TheVariants.{Overlap}
use Rattle.lsm_version.proofs.CallerLemmas.{level_in-map, order_in}
use Rattle.lsm_admission.proofs.LevelRanges.{layouts_more, bounded_in}
use Rattle.lsm_admission.proofs.layouts.judge_layouts.Goals as goal

pub level_layout-requires-clause-bounded : goal.level_layout-requires-clause-bounded
level_layout-requires-clause-bounded g c κs within =
    let tables : List (List Table) = map (λ l. l.items) c.args.levels.now in
    let n = c.loop-number.number in
    let here : level_in tables n ≡ c.as_slice-level.result.now =
    level_in-map (λ l. l.items) c.args.levels.now n c.index-levels-number.result (omega arith)
    c.index-levels-number.is ∙ sym c.as_slice-level.ensures.value in
    subst AreBounded here (bounded_in tables n c.requires.bounded)

pub level_layout-requires-clause-order : goal.level_layout-requires-clause-order
level_layout-requires-clause-order g c κs within =
    let tables : List (List Table) = map (λ l. l.items) c.args.levels.now in
    let n = c.loop-number.number in
    let here : level_in tables n ≡ c.as_slice-level.result.now =
    level_in-map (λ l. l.items) c.args.levels.now n c.index-levels-number.result (omega arith)
    c.index-levels-number.is ∙ sym c.as_slice-level.ensures.value in
    subst (λ (ts : List Table). IsSortedBy stands_before ts) here
    (order_in tables n c.requires.order)

pub returns-in-Overlap-clause-refused : goal.returns-in-Overlap-clause-refused
returns-in-Overlap-clause-refused g c =
    let tables : List (List Table) = map (λ l. l.items) c.args.levels.now in
    let n = c.loop-number.number in
    let here : level_in tables n ≡ c.as_slice-level.result.now =
    level_in-map (λ l. l.items) c.args.levels.now n c.index-levels-number.result (omega arith)
    c.index-levels-number.is ∙ sym c.as_slice-level.ensures.value in (
      omega arith,
      omega arith,
      subst (λ (ts : List Table). LieAs ts Overlap) (sym here)
          (subst (λ (l : Layout). LieAs c.as_slice-level.result.now l) c.in-Overlap.is
          c.in_ok-level_layout.ensures),
      c.loop-number.invariant,
    )

pub loop-number-preserved : goal.loop-number-preserved
loop-number-preserved g c =
    let tables : List (List Table) = map (λ l. l.items) c.args.levels.now in
    let n = c.loop-number.number in
    let layout = c.in_ok-level_layout.field-0 in
    let here : level_in tables n ≡ c.as_slice-level.result.now =
    level_in-map (λ l. l.items) c.args.levels.now n c.index-levels-number.result (omega arith)
    c.index-levels-number.is ∙ sym c.as_slice-level.ensures.value in
    layouts_more tables n layout c.loop-number.invariant
    (subst (λ (ts : List Table). LieAs ts layout) (sym here) c.in_ok-level_layout.ensures)
    c.in_default.not-Overlap

pub returns-clause-ok : goal.returns-clause-ok
returns-clause-ok g c = λ n low le. c.loop-number.invariant n low (omega arith)
