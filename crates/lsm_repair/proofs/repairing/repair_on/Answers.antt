use Rattle.std.proofs.Common.{map, string_bytes}
use Rattle.lsm_repair.proofs.OnFolder.{done_on, unmended_on, unnamed_on}
use Rattle.lsm_repair.proofs.repairing.repair_on.Goals as goal

pub returns-clause-done : goal.returns-clause-done
returns-clause-done g c =
    done_on g.C.FolderCalls g.C.Mark.Mark c.args.folder.now c.pick_number.new.folder
    c.in-Ok.fork c.begin.new.folder c.over-shelf.result c.mend_shelf-mended.result.1
    (map string_bytes c.in_ok-picked.picked.names.items) c.in_ok-picked.picked.number
    c.over-shelf.ensures.fresh c.in-Ok.ensures.fork.1 c.pick_number.ensures.place
    c.in_ok-picked.ensures.picked
    c.in-Ok-mended.mended c.mend_shelf-mended.result.0 c.in-Ok-mended.is
    c.mend_shelf-mended.ensures.mended c.in-Ok-unsure_logs.unsure.items
    (rw c.deref.ensures.value at c.in-Ok-unsure_logs.ensures) c.begin.result c.begin.ensures.begun
    c.begin.ensures.told

pub returns-clause-refused : goal.returns-clause-refused
returns-clause-refused g c =
    unnamed_on g.C.FolderCalls g.C.Mark.Mark c.args.folder.now c.pick_number.new.folder
    c.in-Ok.fork c.begin.new.folder c.over-shelf.result c.mend_shelf-mended.result.1
    (map string_bytes c.in_ok-picked.picked.names.items) c.in_ok-picked.picked.number
    c.over-shelf.ensures.fresh c.in-Ok.ensures.fork.1 c.pick_number.ensures.place
    c.in_ok-picked.ensures.picked
    c.in-Ok-mended.mended c.mend_shelf-mended.result.0 c.in-Ok-mended.is
    c.mend_shelf-mended.ensures.mended c.mend_shelf-mended.ensures.at_most c.begin.result
    c.begin.ensures.refused

pub returns-in-Err-clause-refused : goal.returns-in-Err-clause-refused
returns-in-Err-clause-refused g c =
    unmended_on g.C.FolderCalls g.C.Mark.Mark c.args.folder.now c.pick_number.new.folder
    c.in-Ok.fork c.pick_number.new.folder c.over-shelf.result c.mend_shelf-mended.result.1
    (map string_bytes c.in_ok-picked.picked.names.items) c.in_ok-picked.picked.number
    c.over-shelf.ensures.fresh c.in-Ok.ensures.fork.1 c.pick_number.ensures.place
    c.in_ok-picked.ensures.picked
    c.in-Err.fault c.mend_shelf-mended.result.0 c.in-Err.is c.mend_shelf-mended.ensures.refused
    c.mend_shelf-mended.ensures.at_most
