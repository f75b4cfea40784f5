use Rattle.std.proofs.Common.{◌∙◌, ◌-◌, length, take, drop, ap, sym}
use Rattle.std.proofs.lemmas.List.{take_rest}
use Rattle.lsm_version.proofs.Overlaps.{run_is, run_of, run_more, begin_more, ends_level, ends_before}
use Rattle.lsm_version.proofs.overlap.run_over.Goals as goal

pub returns-then-not-begins_by-clause-tables : goal.returns-then-not-begins_by-clause-tables
returns-then-not-begins_by-clause-tables g c = λ rising.
    let ts = c.args.level.now in
    let p = c.first_reaching-first.result in
    let rest = take (length ts - p) (drop p ts) in
    c.loop-table.invariant.so_far ∙ ap (take c.loop-table.table-index) (take_rest ts p)
    ∙ run_is ts p c.loop-table.table-index c.args.from.now c.args.to.now (c.first_reaching-first.ensures.first rising)
    (ends_before ts rest p c.loop-table.table-index c.table-item.result c.args.to.now rising (take_rest ts p) c.first_reaching-first.ensures.inside c.loop-table-test.true c.table-item.is (sym c.begins_by.ensures ∙ c.if-not-begins_by.true) c.loop-table.invariant.begin)

pub loop-table-preserved : goal.loop-table-preserved
loop-table-preserved g c =
    let i = c.loop-table.table-index in
    let x = c.table-item.result in
    let rest = take (length c.args.level.now - c.first_reaching-first.result) (drop c.first_reaching-first.result c.args.level.now) in
    record {
      so_far = run_more rest c.loop-table.over.items _ i x _ c.loop-table-test.true c.table-item.is c.again.ensures c.in_ok-push.ensures.items c.loop-table.invariant.so_far;
      begin = begin_more rest i x c.args.to.now c.loop-table-test.true c.table-item.is (sym c.begins_by.ensures ∙ c.if-not-begins_by.false) c.loop-table.invariant.begin;
    }

pub returns-clause-tables : goal.returns-clause-tables
returns-clause-tables g c = λ rising.
    let ts = c.args.level.now in
    let p = c.first_reaching-first.result in
    let rest = take (length ts - p) (drop p ts) in
    c.loop-table.invariant.so_far ∙ ap (take c.loop-table.table-index) (take_rest ts p)
    ∙ run_is ts p c.loop-table.table-index c.args.from.now c.args.to.now (c.first_reaching-first.ensures.first rising)
    (ends_level ts rest p c.loop-table.table-index c.args.to.now (take_rest ts p) c.first_reaching-first.ensures.inside c.loop-table-test.false c.loop-table.invariant.begin)

pub returns-then-not-begins_by-clause-of_level : goal.returns-then-not-begins_by-clause-of_level
returns-then-not-begins_by-clause-of_level g c =
    let ts = c.args.level.now in
    let p = c.first_reaching-first.result in
    let rest = take (length ts - p) (drop p ts) in
    run_of ts rest c.loop-table.over.items p c.loop-table.table-index (take_rest ts p) c.loop-table.invariant.so_far

pub returns-clause-of_level : goal.returns-clause-of_level
returns-clause-of_level g c =
    let ts = c.args.level.now in
    let p = c.first_reaching-first.result in
    let rest = take (length ts - p) (drop p ts) in
    run_of ts rest c.loop-table.over.items p c.loop-table.table-index (take_rest ts p) c.loop-table.invariant.so_far
