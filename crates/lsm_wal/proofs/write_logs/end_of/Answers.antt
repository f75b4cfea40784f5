use Rattle.std.proofs.Common.{◌+◌, length, ap, ◌∙◌, arith}
use Rattle.lsm_batch.specs.declared.write.Write.{Write}
use Rattle.lsm_wal.proofs.BatchLaws.{last_ends}
use Rattle.lsm_wal.proofs.write_logs.end_of.Goals as goal

pub overflow_add-result : goal.overflow_add-result
overflow_add-result c =
    let l = last_ends c.args.least c.requires.0 c.args.batches.now c.in-Some.last.now c.requires.1
    c.in-Some.ensures.value in
    omega (arith, l.0, ap (length {A = Write}) c.as_slice.ensures)

pub returns-in-Some : goal.returns-in-Some
returns-in-Some c =
    let l = last_ends c.args.least c.requires.0 c.args.batches.now c.in-Some.last.now c.requires.1
    c.in-Some.ensures.value in
    ap (λ n. c.in-Some.last.now.first + n) (ap (length {A = Write}) c.as_slice.ensures) ∙ l.1
