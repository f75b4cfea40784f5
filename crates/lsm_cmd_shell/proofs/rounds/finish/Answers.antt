use Rattle.lsm_script.specs.Steps.{stage}
use Rattle.lsm_cmd_shell.proofs.rounds.finish.Goals as goal

pub returns-in-Err-clause-err : goal.returns-in-Err-clause-err
returns-in-Err-clause-err g c = (
  stage c.try_to_finish.new.state c.try_to_finish.new.desk c.try_to_finish.new.shelf,
  c.answer-cancelled.result,
  rw c.in-Err.is at c.try_to_finish.ensures.err,
  c.answer-cancelled.ensures.step,
)
