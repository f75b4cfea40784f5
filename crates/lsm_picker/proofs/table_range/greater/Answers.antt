use Rattle.lsm_picker.proofs.Planning.{greater_by}
use Rattle.lsm_picker.proofs.table_range.greater.Goals as goal

pub returns-else-is_at_most : goal.returns-else-is_at_most
returns-else-is_at_most c = greater_by c.args.a.now c.args.b.now c.is_at_most.result c.is_at_most.ensures c.if-is_at_most.false
