use Rattle.lsm_live.proofs.Standing.{has_no_twins, stands_in_order}
use Rattle.lsm_live.proofs.laws.planned_inputs_stand_in_order.Goals as goal

pub returns-clause-order : goal.returns-clause-order
returns-clause-order c = stands_in_order

pub returns-clause-single : goal.returns-clause-single
returns-clause-single c = has_no_twins
