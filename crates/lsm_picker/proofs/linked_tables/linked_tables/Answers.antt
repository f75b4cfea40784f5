-- The range grows by its tables; where it meets no more of them, or all of the level, it has all that are linked.
use Rattle.std.proofs.Common.{◌≤◌, List, length, subst, arith}
use Rattle.lsm_table.specs.Registry.{Table}
use Rattle.lsm_version.specs.Versions.{level_in}
use Rattle.lsm_picker.specs.TableRanges.{IsHighest, IsLowest}
use Rattle.lsm_picker.proofs.Growing.{grown_done, grown_full, grown_more, grown_start}
use Rattle.lsm_picker.proofs.linked_tables.linked_tables.Goals as goal

pub loop-init : goal.loop-init
loop-init g c = record {
  of_level = c.in_ok-tables.ensures.of_level;
  grown = λ h s. grown_start c.args.version.now c.args.level c.args.from.now c.args.to.now c.in_ok-tables.tables.items (c.in_ok-tables.ensures.tables h);
  long = omega arith;
}

pub returns-then-len-clause-linked : goal.returns-then-len-clause-linked
returns-then-len-clause-linked g c = λ h s order.
    let us = c.loop.tables.items in
    let low = c.lowest-low.result.now in
    let high = c.highest-high.result.now in
    let l : IsLowest us c.args.from.now low = subst (λ (ts : List Table). IsLowest ts c.args.from.now low) c.as_slice.ensures.value c.lowest-low.ensures in
    let u : IsHighest us c.args.to.now high = subst (λ (ts : List Table). IsHighest ts c.args.to.now high) c.as_slice-in-loop.ensures.value c.highest-high.ensures in
    let le : length c.in_ok-more.more.items ≤ length us = omega (arith, c.len.ensures, c.len-in-loop.ensures, c.if-len.true) in
    grown_done c.args.version.now c.args.level c.args.from.now c.args.to.now low high us c.in_ok-more.more.items s order (c.loop.invariant.grown h s) l u (c.in_ok-more.ensures.tables h) le

pub loop-preserved : goal.loop-preserved
loop-preserved g c =
    let us = c.loop.tables.items in
    let low = c.lowest-low.result.now in
    let high = c.highest-high.result.now in
    let l : IsLowest us c.args.from.now low = subst (λ (ts : List Table). IsLowest ts c.args.from.now low) c.as_slice.ensures.value c.lowest-low.ensures in
    let u : IsHighest us c.args.to.now high = subst (λ (ts : List Table). IsHighest ts c.args.to.now high) c.as_slice-in-loop.ensures.value c.highest-high.ensures in
    record {
      of_level = c.in_ok-more.ensures.of_level;
      grown = λ h s. grown_more c.args.version.now c.args.level c.args.from.now c.args.to.now low high us c.in_ok-more.more.items s (c.loop.invariant.grown h s) l u (c.in_ok-more.ensures.tables h);
      long = omega (arith, c.loop.invariant.long, c.len.ensures, c.len-in-loop.ensures, c.if-len.false);
    }

pub returns-clause-linked : goal.returns-clause-linked
returns-clause-linked g c = λ h s order.
    let full : length (level_in c.args.version.now.tables c.args.level) ≤ length c.loop.tables.items
    = subst (λ (ts : List Table). length ts ≤ length c.loop.tables.items) c.level-end.ensures (omega (arith, c.loop.invariant.long, c.loop-test.false)) in
    grown_full c.args.version.now c.args.level c.args.from.now c.args.to.now c.loop.tables.items s (c.loop.invariant.grown h s) full
