use Rattle.std.proofs.Common.{refl, ap, arith}
use Rattle.lsm_bulk_load.specs.declared.progress.Progress.{Progress}
use Rattle.lsm_bulk_load.specs.Keeping.{IsOfLines}
use Rattle.lsm_bulk_load.proofs.KeepingLaws.{kept_next, told_next, told_none}
use Rattle.lsm_bulk_load.proofs.LoadLaws.{counted, end_on, few_lines, full_on, loads_none, room, room_of_batches, stopped_on, stopped_short}
use Rattle.lsm_bulk_load.proofs.loading.load.Goals as goal

pub batches-init : goal.batches-init
batches-init g c = record {
  loads = loads_none c.args.lines.now c.args.mark c.none-progress.result c.requires.held (ap (λ (p : Progress). p.lines) c.none-progress.ensures) (ap (λ (p : Progress). p.batches) c.none-progress.ensures);
  form = (refl, refl);
  lines = omega (arith, ap (λ (p : Progress). p.lines) c.none-progress.ensures);
  count = omega (arith, ap (λ (p : Progress). p.batches) c.none-progress.ensures);
  told = told_none (g.S.Shelf.refuses g.N.Naming.place) g.O.Origin.keeps (IsOfLines c.args.lines.now) c.args.shelf.now;
}

pub take_batch-requires-clause-lines : goal.take_batch-requires-clause-lines
take_batch-requires-clause-lines g c κs within = room c.batches._turn c.batches.progress.lines c.batches.invariant.lines c.batches-test.true

pub take_batch-requires-clause-batches : goal.take_batch-requires-clause-batches
take_batch-requires-clause-batches g c κs within = room_of_batches c.batches._turn c.batches.progress.batches c.batches.invariant.count c.batches-test.true

pub take_batch-requires-clause-asked : goal.take_batch-requires-clause-asked
take_batch-requires-clause-asked g c κs within =
    kept_next (g.S.Shelf.refuses g.N.Naming.place) g.O.Origin.keeps c.args.lines.now c.batches.lines c.args.mark c.batches.mark c.batches.progress c.requires.asked c.batches.invariant.form
    c.batches.invariant.loads

pub returns-in-Err-clause-refused : goal.returns-in-Err-clause-refused
returns-in-Err-clause-refused g c =
    stopped_short (g.S.Shelf.refuses g.N.Naming.place) g.O.Origin.keeps c.args.lines.now c.batches.lines c.args.mark c.batches.mark c.in-Err.left c.batches.progress c.in-Err.fault
    c.batches.invariant.form c.batches.invariant.loads c.in-Err.ensures.refused

pub returns-in-End-clause-loaded : goal.returns-in-End-clause-loaded
returns-in-End-clause-loaded g c =
    end_on c.args.lines.now c.batches.lines c.take_batch.new.lines c.args.mark c.batches.mark c.in-Ok.next c.batches.progress c.in-Ok.more c.in-Ok.end c.in-End.is
    c.batches.invariant.form c.batches.invariant.loads c.in-Ok.ensures.taken

pub returns-in-Stopped-clause-refused : goal.returns-in-Stopped-clause-refused
returns-in-Stopped-clause-refused g c =
    stopped_on c.args.lines.now c.batches.lines c.take_batch.new.lines c.args.mark c.batches.mark c.in-Ok.next c.batches.progress c.in-Ok.more c.in-Ok.end c.in-Stopped.fault c.in-Stopped.is
    c.batches.invariant.form c.batches.invariant.loads c.in-Ok.ensures.taken

pub batches-preserved : goal.batches-preserved
batches-preserved g c =
    let on = full_on c.args.lines.now c.batches.lines c.take_batch.new.lines c.args.mark c.batches.mark c.in-Ok.next c.batches.progress c.in-Ok.more c.in-Ok.end c.in-Full.is
    c.batches.invariant.form c.batches.invariant.loads c.in-Ok.ensures.taken in
    let more = counted c.batches.lines c.take_batch.new.lines c.batches.mark c.in-Ok.next c.batches.progress c.in-Ok.more c.in-Ok.end c.in-Ok.ensures.taken in
    record {
      loads = on.0;
      form = on.1;
      lines = few_lines c.batches._turn c.batches.progress.lines c.in-Ok.more.lines c.batches.invariant.lines more.0;
      count = omega (arith, c.batches.invariant.count, more.1);
      told = told_next (g.S.Shelf.refuses g.N.Naming.place) g.O.Origin.keeps c.args.lines.now c.batches.lines c.args.mark c.batches.mark c.batches.progress c.args.shelf.now c.batches.shelf
          c.take_batch.new.shelf c.batches.invariant.form c.batches.invariant.loads c.batches.invariant.told c.take_batch.ensures.told;
    }

pub returns-clause-refused : goal.returns-clause-refused
returns-clause-refused g c = (c.batches.lines.left, c.batches.lines.held, c.batches.invariant.loads)

pub returns-in-Err-clause-told : goal.returns-in-Err-clause-told
returns-in-Err-clause-told g c =
    told_next (g.S.Shelf.refuses g.N.Naming.place) g.O.Origin.keeps c.args.lines.now c.batches.lines c.args.mark c.batches.mark c.batches.progress c.args.shelf.now c.batches.shelf
    c.take_batch.new.shelf c.batches.invariant.form c.batches.invariant.loads c.batches.invariant.told c.take_batch.ensures.told

pub returns-in-End-clause-told : goal.returns-in-End-clause-told
returns-in-End-clause-told g c =
    told_next (g.S.Shelf.refuses g.N.Naming.place) g.O.Origin.keeps c.args.lines.now c.batches.lines c.args.mark c.batches.mark c.batches.progress c.args.shelf.now c.batches.shelf
    c.take_batch.new.shelf c.batches.invariant.form c.batches.invariant.loads c.batches.invariant.told c.take_batch.ensures.told

pub returns-in-Stopped-clause-told : goal.returns-in-Stopped-clause-told
returns-in-Stopped-clause-told g c =
    told_next (g.S.Shelf.refuses g.N.Naming.place) g.O.Origin.keeps c.args.lines.now c.batches.lines c.args.mark c.batches.mark c.batches.progress c.args.shelf.now c.batches.shelf
    c.take_batch.new.shelf c.batches.invariant.form c.batches.invariant.loads c.batches.invariant.told c.take_batch.ensures.told
