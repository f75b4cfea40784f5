use Rattle.std.proofs.lemmas.Result.{err_from_is_err_and}
use Rattle.lsm_frames.specs.Views.{stretch_of}
use Rattle.lsm_frames.proofs.HeldLaws.{long_from, long_to}
use Rattle.lsm_frames.proofs.spelling.spell_scan.Goals as goal

pub returns-in_err-put_key-clause-long : goal.returns-in_err-put_key-clause-long
returns-in_err-put_key-clause-long c = λ e.
    let p = err_from_is_err_and c.from_residual-in_err-put_key.result c.from_residual-in_err-put_key.ensures.1 in
    long_from (stretch_of c.args.range.now) (c.in_err-put_key.ensures.long (cc (p.1, p.2, e)))

pub returns-in_err-put_bound-clause-long : goal.returns-in_err-put_bound-clause-long
returns-in_err-put_bound-clause-long c = λ e.
    let p = err_from_is_err_and c.from_residual-in_err-put_bound.result c.from_residual-in_err-put_bound.ensures.1 in
    long_to (stretch_of c.args.range.now) (c.in_err-put_bound.ensures.long (cc (p.1, p.2, e)))
