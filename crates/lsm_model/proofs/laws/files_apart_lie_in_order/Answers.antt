use Rattle.lsm_model.proofs.Beside.{apart_in_order, in_order_distinct}
use Rattle.lsm_model.proofs.laws.files_apart_lie_in_order.Goals as goal

pub returns : goal.returns
returns c = record { apart = apart_in_order; distinct = in_order_distinct }
