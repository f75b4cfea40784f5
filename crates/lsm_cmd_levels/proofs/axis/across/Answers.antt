use Rattle.lsm_cmd_levels.proofs.DrawingLaws.{room_some}
use Rattle.lsm_cmd_levels.proofs.axis.across.Goals as goal

pub nonzero_div-result : goal.nonzero_div-result
nonzero_div-result c = room_some c.args.shape.now c.in_ok-room.field-0 c.in_ok-room.ensures
