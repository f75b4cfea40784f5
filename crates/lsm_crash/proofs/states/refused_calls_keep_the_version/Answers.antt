use Rattle.std.proofs.Common.{inl, inr}
use Rattle.lsm_crash.proofs.Refusals.{change_spent, collect_stays, gather_made_err, gather_stays, ingest_stays, install_stays, put_spent}
use Rattle.lsm_crash.proofs.states.refused_calls_keep_the_version.Goals as goal

pub returns-clause-ingest : goal.returns-clause-ingest
returns-clause-ingest g c = ingest_stays

pub returns-clause-not_put : goal.returns-clause-not_put
returns-clause-not_put g c = put_spent

pub returns-clause-put : goal.returns-clause-put
returns-clause-put g c = change_spent

pub returns-clause-gather : goal.returns-clause-gather
returns-clause-gather g c = λ old new fault was is r small going. (
  gather_stays g.P.Premise.holds old new fault was is r small going,
  elim (gather_made_err g.P.Premise.holds old new fault was is r) [ inl none ↦ inl none | inr put ↦ inr (put.spent going) ],
)

pub returns-clause-install : goal.returns-clause-install
returns-clause-install g c = install_stays

pub returns-clause-collect : goal.returns-clause-collect
returns-clause-collect g c = collect_stays
