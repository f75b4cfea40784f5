use Rattle.std.proofs.lemmas.Result.{err_from_is_err_and}
use Rattle.lsm_frames.specs.Views.{between_of}
use Rattle.lsm_frames.proofs.HeldLaws.{long_first, long_last}
use Rattle.lsm_frames.proofs.spelling.spell_compact.Goals as goal

pub returns-in_err-put_key-clause-long : goal.returns-in_err-put_key-clause-long
returns-in_err-put_key-clause-long c = λ e.
    let p = err_from_is_err_and c.from_residual-in_err-put_key.result c.from_residual-in_err-put_key.ensures.1 in
    long_first (between_of c.args.bounds.now) (c.in_err-put_key.ensures.long (cc (p.1, p.2, e)))

pub returns-in_err-put_bound-clause-long : goal.returns-in_err-put_bound-clause-long
returns-in_err-put_bound-clause-long c = λ e.
    let p = err_from_is_err_and c.from_residual-in_err-put_bound.result c.from_residual-in_err-put_bound.ensures.1 in
    long_last (between_of c.args.bounds.now) (c.in_err-put_bound.ensures.long (cc (p.1, p.2, e)))
