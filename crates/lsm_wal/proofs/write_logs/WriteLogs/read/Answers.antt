use Rattle.std.proofs.Common.{◌++◌, ap, ◌∙◌}
use Rattle.lsm_wal.proofs.RowLaws.{row_more}
use Rattle.lsm_wal.proofs.write_logs.WriteLogs.read.Goals as goal

pub invariant_of-self-2 : goal.invariant_of-self-2
invariant_of-self-2 c =
    let found = c.in_ok-log.ensures.found in
    row_more c.self.inside.batches.items c.in_ok-log.log.batches c.deref.result.now
    c.deref-2.result.now c.append.new.self.items found.records c.self.inside.end
    c.end_of-end.result
    c.self.invariant.0 c.self.invariant.1 found.spelled
    (c.deref.ensures.value ∙ c.into_vec-batches.ensures)
    (c.deref-2.ensures.value ∙ c.into_vec-batches.ensures)
    (c.begin_below.ensures.no c.if-begin_below.false) c.end_of-end.ensures
    (c.in_ok-append.ensures.items ∙ ap (λ ws. c.self.inside.batches.items ++ ws)
    c.into_vec-batches.ensures)
