use Rattle.lsm_crash.proofs.Opening.{opening_cut, opening_done, opening_finds, opening_settled, opening_world}
use Rattle.lsm_crash.proofs.Reopening.{reopened_settled, reopened_version, reopened_world}
use Rattle.lsm_crash.proofs.Found.{found_shown, opened_last, opened_same}
use Rattle.lsm_crash.proofs.states.databases_open_on_what_was_found.Goals as goal

pub returns-clause-opened : goal.returns-clause-opened
returns-clause-opened g c = λ board limit h d e w v asks l i p made to done. (
  opening_settled g.P.Premise.holds board limit h d w v l.0 i p to e (opening_done g.P.Premise.holds limit h d p asks made w.tables e done),
  opening_world g.P.Premise.holds board limit h d w v l.0 i p to,
)

pub returns-clause-cut : goal.returns-clause-cut
returns-clause-cut g c = λ board limit h d e w v asks found l i p made to cut left.
    opening_finds g.P.Premise.holds board limit h d w v l.0 i p to e found (opening_cut g.P.Premise.holds limit h d p asks made w.tables e cut) left

pub returns-clause-same : goal.returns-clause-same
returns-clause-same g c = λ limit h d v f p seven. (opened_same g.P.Premise.holds limit h d v f p seven, opened_last g.P.Premise.holds limit h d v f p seven)

pub returns-clause-shown : goal.returns-clause-shown
returns-clause-shown g c = found_shown

pub returns-clause-unsure : goal.returns-clause-unsure
returns-clause-unsure g c = λ board limit h d e known v asks l i p made above to done. (
  reopened_settled g.P.Premise.holds board limit h d known v l.0 i p to above e
      (opening_done g.P.Premise.holds limit h d p asks made known.tables e done),
  reopened_world g.P.Premise.holds board limit h d known v l.0 i p to,
  reopened_version g.P.Premise.holds board limit h d known v l.0 i p to,
)
