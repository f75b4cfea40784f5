use Rattle.std.proofs.lemmas.Result.{err_from_is_err_and}
use Rattle.lsm_manifest.specs.Standing.{file_at}
use Rattle.lsm_manifest.proofs.StandingLaws.{new_none, adds_next, double_at}
use Rattle.lsm_manifest.proofs.standing.Standing.add_all.Goals as goal

pub loop-file-init : goal.loop-file-init
loop-file-init c = λ es ds t. (t, new_none es ds)

pub returns-in_err-add-clause-err : goal.returns-in_err-add-clause-err
returns-in_err-add-clause-err c =
    let p = err_from_is_err_and c.from_residual.result c.from_residual.ensures.1 in
    rw (p.1, p.2) (λ es ds t. double_at es ds c.args.added.now c.loop-file.file-index c.file-item.result (file_at c.loop-file.self) c.in_err-add.field-0.0
    c.loop-file-test.true c.file-item.is (c.loop-file.invariant es ds t) c.in_err-add.ensures.err)

pub loop-file-preserved : goal.loop-file-preserved
loop-file-preserved c = λ es ds t.
    adds_next es ds c.args.added.now c.loop-file.file-index c.file-item.result (file_at c.loop-file.self) (file_at c.add.new.self) c.loop-file-test.true c.file-item.is (c.loop-file.invariant es ds t)
    (record { was = c.in_ok-add.ensures.was; here = c.in_ok-add.ensures.here; others = c.in_ok-add.ensures.others })
