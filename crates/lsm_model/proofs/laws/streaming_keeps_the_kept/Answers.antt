use Rattle.lsm_model.proofs.Cuts.{finished_holds}
use Rattle.lsm_model.proofs.Streams.{streamed_kept}
use Rattle.lsm_model.proofs.laws.streaming_keeps_the_kept.Goals as goal

pub returns : goal.returns
returns c = record { stream = streamed_kept; pieces = λ level floor merged es ranges. finished_holds level merged es floor ranges }
