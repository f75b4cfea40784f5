use Rattle.std.proofs.Common.{List, ap, sym, subst, map, ◌∙◌}
use Rattle.std.specs.List.Sorted.{IsSortedBy}
use Rattle.lsm_table.specs.Registry.{Table}
use Rattle.lsm_version.specs.Versions.{stands_before}
use Rattle.lsm_version.specs.Changes.{level_after}
use Rattle.lsm_version.proofs.Changing.{order_at, level_at, level_more}
use Rattle.lsm_version.proofs.change.levels_after.Goals as goal

pub level_after-requires-clause-order : goal.level_after-requires-clause-order
level_after-requires-clause-order g c κs within =
    subst (λ (us : List Table). IsSortedBy stands_before us) (sym c.as_slice.ensures.value)
    (order_at (λ l. l.items) c.args.levels.now c.loop-number.number c.index-levels-number.result c.loop-number-test.true c.index-levels-number.is c.requires.order)

pub loop-number-preserved : goal.loop-number-preserved
loop-number-preserved g c =
    let i = c.loop-number.number in
    level_more (λ l. l.items) c.args.deleted.now c.args.added.now i c.loop-number.after.items _ c.in_ok-tables.tables (map (λ l. l.items) c.args.levels.now) _ c.index-levels-number.result.items
    (level_at (λ l. l.items) c.args.levels.now i c.index-levels-number.result c.loop-number-test.true c.index-levels-number.is)
    c.in_ok-push.ensures.items
    (c.in_ok-tables.ensures ∙ ap (λ ts. level_after c.args.deleted.now c.args.added.now i ts) c.as_slice.ensures.value)
    c.loop-number.invariant
