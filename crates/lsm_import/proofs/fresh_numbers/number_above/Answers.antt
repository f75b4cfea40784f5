use Rattle.std.proofs.Common.{refl, arith}
use Rattle.lsm_import.proofs.CopyLaws.{above_all, above_more, above_none, has_at}
use Rattle.lsm_import.proofs.fresh_numbers.number_above.Goals as goal

pub loop-file-init : goal.loop-file-init
loop-file-init c = above_none c.args.from

pub loop-file-preserved : goal.loop-file-preserved
loop-file-preserved c = above_more c.args.from c.loop-file.next c.max-next.result c.args.files.now
    c.loop-file.file-index c.file-item.result c.loop-file-test.true c.file-item.is
    c.loop-file.invariant c.max-next.ensures

pub returns-clause-above : goal.returns-clause-above
returns-clause-above c = above_all c.args.from c.loop-file.next c.args.files.now
    c.loop-file.file-index c.loop-file-test.false c.loop-file.invariant

pub returns-then-file-clause-spent : goal.returns-then-file-clause-spent
returns-then-file-clause-spent c = (
  refl,
  (
    c.file-item.result,
    has_at c.args.files.now c.loop-file.file-index c.file-item.result
        c.loop-file-test.true c.file-item.is,
    omega arith,
  ),
)
