use Rattle.std.proofs.Common.{◌∙◌, ap, arith, inl, refl, subst}
use Rattle.std.proofs.lemmas.Result.{err_from_is_err_and}
use Rattle.lsm_table.specs.declared.table_options.TableOptions.{TableOptions}
use Rattle.lsm_repair.specs.Merging.{IsUnadded}
use Rattle.lsm_repair.specs.declared.merging.Totals.{Totals}
use Rattle.lsm_repair.proofs.MergeLaws.{has_last, next_ordered, stops_at, top_more, top_one}
use Rattle.lsm_repair.proofs.MergeLaws.{union_all, union_next, union_one}
use Rattle.lsm_repair.proofs.merging.add_all.Goals as goal

pub add-requires-clause-order : goal.add-requires-clause-order
add-requires-clause-order c =
    (next_ordered c.loop-entry.top.now c.args.others.now c.loop-entry.entry-index
    c.entry-item.result c.loop-entry-test.true c.entry-item.is c.loop-entry.invariant.order).0

pub loop-entry-init : goal.loop-entry-init
loop-entry-init c = record {
  union = rw (c.requires.begun, c.sequence-begun.ensures) (union_one c.args.one.now);
  counted = rw c.requires.begun refl;
  top = rw c.requires.begun (top_one c.args.one.now);
  among = inl refl;
  order = c.requires.order;
  options = refl;
}

pub loop-entry-preserved : goal.loop-entry-preserved
loop-entry-preserved c =
    let i = c.loop-entry.invariant in
    let e = c.entry-item.result in
    let at = c.loop-entry.entry-index in
    let others = c.args.others.now in
    let lt = c.loop-entry-test.true in
    let count = ap (λ (t : Totals). t.count) c.in_ok-totals.ensures in
    let grown = c.in_ok-more.ensures.counted in
    let before = i.counted in
    record {
      union = union_next c.args.one.now others at c.loop-entry.table.entries
          c.add.new.table.entries c.loop-entry.totals.last c.in_ok-totals.totals.last
          c.sequence-own.result c.loop-entry.top.now e lt c.entry-item.is i.union i.top
          c.in_ok-more.ensures.added (ap (λ (t : Totals). t.last) c.in_ok-totals.ensures)
          c.sequence-own.ensures;
      counted = omega (arith, count, grown, before);
      top = top_more _ c.loop-entry.table.entries c.add.new.table.entries c.loop-entry.totals.last
          c.loop-entry.top.now e i.union i.top c.in_ok-more.ensures.added;
      among = has_last c.args.one.now others at e lt c.entry-item.is;
      order = (next_ordered c.loop-entry.top.now others at e lt c.entry-item.is i.order).1;
      options = c.in_ok-more.ensures.options ∙ i.options;
    }

pub returns-clause-built : goal.returns-clause-built
returns-clause-built c = record {
  union = union_all c.args.one.now c.args.others.now c.loop-entry.entry-index
      c.loop-entry.table.entries c.loop-entry.totals.last c.loop-entry-test.false
      c.loop-entry.invariant.union;
  counted = c.loop-entry.invariant.counted;
}

pub returns-in_err-more-clause-refused : goal.returns-in_err-more-clause-refused
returns-in_err-more-clause-refused c =
    let p = err_from_is_err_and c.from_residual.result c.from_residual.ensures.1 in
    rw (p.1, p.2) (stops_at c.args.table.now.options c.args.one.now c.args.others.now
    c.loop-entry.entry-index c.loop-entry.table.entries c.loop-entry.totals.last
    c.loop-entry.top.now c.entry-item.result _ c.loop-entry-test.true c.entry-item.is
    c.loop-entry.invariant.union
    c.loop-entry.invariant.among
    (subst (λ (o : TableOptions). IsUnadded o c.loop-entry.table.entries c.loop-entry.top.now
    c.entry-item.result c.in_err-more.field-0.0) c.loop-entry.invariant.options
    c.in_err-more.ensures.refused))
