use Rattle.lsm_crash.proofs.Dropping.{follow_done, follow_cut}
use Rattle.lsm_crash.proofs.laws.starts_settle_what_is_known.Goals as goal

pub returns-clause-done : goal.returns-clause-done
returns-clause-done c =
    λ known number bytes v d e i ok h. follow_done known number bytes v ok d e i h

pub returns-clause-cut : goal.returns-clause-cut
returns-clause-cut c = λ known number bytes v d e i ok h. follow_cut known number bytes v ok d e i h
