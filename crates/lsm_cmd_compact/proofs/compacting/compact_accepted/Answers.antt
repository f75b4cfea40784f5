use Rattle.std.proofs.Common.{inl, inr, ◌∙◌}
use Rattle.std.proofs.lemmas.Result.{err_from_is_err_and}
use Rattle.lsm_directory.proofs.CallerLemmas.{keeps_same}
use Rattle.lsm_cmd_compact.proofs.compacting.compact_accepted.Goals as goal

pub compact_named-requires-clause-shelf : goal.compact_named-requires-clause-shelf
compact_named-requires-clause-shelf g c κs within = c.in_ok-refuse_torn.ensures.place ∙ c.requires.shelf

pub returns-in_err-refuse_torn-clause-fault : goal.returns-in_err-refuse_torn-clause-fault
returns-in_err-refuse_torn-clause-fault g c =
    let p = err_from_is_err_and c.from_residual.result c.from_residual.ensures.1 in
    rw (p.1, p.2) (inr (inl c.in_err-refuse_torn.ensures.refused))

pub returns-in_err-refuse_torn-clause-left : goal.returns-in_err-refuse_torn-clause-left
returns-in_err-refuse_torn-clause-left g c =
    let p = err_from_is_err_and c.from_residual.result c.from_residual.ensures.1 in
    rw (p.1, p.2) (λ other. keeps_same (g.O.Write.contents c.args.out.now))

pub returns-in-Ok-clause-done : goal.returns-in-Ok-clause-done
returns-in-Ok-clause-done g c = (_, c.in_ok-refuse_torn.ensures.accepted, c.in-Ok.ensures.done)

pub returns-in-Err-clause-fault : goal.returns-in-Err-clause-fault
returns-in-Err-clause-fault g c = inr (inr (_, c.in_ok-refuse_torn.ensures.accepted, c.in-Err.ensures.fault))
