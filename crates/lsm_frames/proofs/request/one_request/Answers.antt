use Rattle.lsm_frames.proofs.RequestLaws.{same_request}
use Rattle.lsm_frames.proofs.request.one_request.Goals as goal

pub returns : goal.returns
returns c = same_request
