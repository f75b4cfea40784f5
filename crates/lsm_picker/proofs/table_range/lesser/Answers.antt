use Rattle.lsm_picker.proofs.Planning.{lesser_by}
use Rattle.lsm_picker.proofs.table_range.lesser.Goals as goal

pub returns-else-is_at_most : goal.returns-else-is_at_most
returns-else-is_at_most c = lesser_by c.args.a.now c.args.b.now c.is_at_most.result c.is_at_most.ensures c.if-is_at_most.false
