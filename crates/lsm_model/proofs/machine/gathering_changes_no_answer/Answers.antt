use Rattle.lsm_model.proofs.Gathering.{gather_same}
use Rattle.lsm_model.proofs.machine.gathering_changes_no_answer.Goals as goal

pub returns : goal.returns
returns g c = λ s t honest l h. gather_same g.P.Premise.holds s t l.books (l.meaning honest) honest h
