use Rattle.lsm_model.proofs.Moves.{move_outputs, move_answers}
use Rattle.lsm_model.proofs.laws.move_changes_no_answer.Goals as goal

pub returns : goal.returns
returns c = record {
  outputs = λ v outs job. move_outputs v job outs;
  answers = λ v w outs job l o m. move_answers v job outs w l o (move_outputs v job outs l o m);
}
