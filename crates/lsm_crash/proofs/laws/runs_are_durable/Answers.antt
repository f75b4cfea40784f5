use Rattle.lsm_crash.proofs.Runs.{goes_settled, done_settled}
use Rattle.lsm_crash.proofs.laws.runs_are_durable.Goals as goal

pub returns-clause-run : goal.returns-clause-run
returns-clause-run c = goes_settled

pub returns-clause-done : goal.returns-clause-done
returns-clause-done c = λ o d e w i ok h. done_settled d e w o i ok h
