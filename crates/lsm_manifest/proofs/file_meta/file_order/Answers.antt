use Rattle.lsm_manifest.proofs.FileOrderLaws.{order_is}
use Rattle.lsm_manifest.proofs.file_meta.file_order.Goals as goal

pub returns : goal.returns
returns c = order_is
