use Rattle.std.proofs.Common.{◌≤◌, List, length, refl, subst, arith}
use Rattle.lsm_codec.specs.Lists.{Has}
use Rattle.lsm_table.specs.Registry.{Table}
use Rattle.lsm_picker.specs.Outermost.{LiesOutside}
use Rattle.lsm_picker.specs.Scores.{free_tables}
use Rattle.lsm_picker.proofs.GatheringLaws.{each_more, item_has}
use Rattle.lsm_picker.proofs.outermost.outermost_span.Goals as goal

pub returns-then-lies_outside : goal.returns-then-lies_outside
returns-then-lies_outside g c =
    let rs = c.args.live.now in
    let same = c.level-tables.ensures in
    let us = c.level-tables.result.now in
    let x = c.table-item.result in
    let here : Has us x =
    item_has us c.loop-table.table-index x c.loop-table-test.true c.table-item.is in
    let four : 4 ≤ length (free_tables rs us) =
    omega (arith, c.free_count.ensures.count, c.if-free_count-lt4.false) in
    record {
      file = x;
      outermost = record {
        four = subst (λ (ts : List Table). 4 ≤ length (free_tables rs ts)) same four;
        here = subst (λ (ts : List Table). Has ts x) same here;
        lies = c.lies_outside.ensures.0 c.if-lies_outside.true;
      };
      level = refl;
      from = c.low_of-from.ensures;
      to = c.high_of-to.ensures;
    }

pub loop-table-preserved : goal.loop-table-preserved
loop-table-preserved g c =
    each_more (λ t. LiesOutside c.args.version.now t → ⊥) c.level-tables.result.now
    c.loop-table.table-index c.table-item.result c.loop-table-test.true c.table-item.is
    c.loop-table.invariant
    (λ lies. (let yes = c.lies_outside.ensures.1 lies in let off = c.if-lies_outside.false in
    absurd (cc (yes, off))))
