use Rattle.std.proofs.Common.{inl, inr, refl}
use Rattle.std.proofs.lemmas.Result.{err_from_is_err_and}
use Rattle.lsm_cmd_write.proofs.WritingOutcomes.{all_keep}
use Rattle.lsm_cmd_write.proofs.ingesting.bring_in_opened.Goals as goal

pub returns-clause-fault : goal.returns-clause-fault
returns-clause-fault g c =
    inr (refl, (c.in_ok-ingested.ingested, _, c.in_ok-ingested.ensures.ok))

pub returns-in_err-ingested-clause-fault : goal.returns-in_err-ingested-clause-fault
returns-in_err-ingested-clause-fault g c =
    let p = err_from_is_err_and c.from_residual.result c.from_residual.ensures.1 in
    let fault = c.in_err-ingested.field-0.0 in
    rw (p.1, p.2) (inl (
      fault,
      refl,
      (_, c.in_err-ingested.ensures.refused),
      c.in_err-ingested.ensures.asked,
    ))

pub returns-in_err-ingested-clause-left : goal.returns-in_err-ingested-clause-left
returns-in_err-ingested-clause-left g c =
    all_keep c.from_residual.result (g.O.Write.contents c.args.out.now)
