use Rattle.std.proofs.Common.{sym}
use Rattle.lsm_repair.proofs.MergeLaws.{merged_same, unmerged_same}
use Rattle.lsm_repair.proofs.merging.merge.Goals as goal

pub returns-in-Ok-clause-merged : goal.returns-in-Ok-clause-merged
returns-in-Ok-clause-merged c =
    merged_same c.args.entries.items c.in_ok-ordered.ordered.items c.in_ok-ordered.ensures.same
    c.in-Ok.merged.last c.in-Ok.merged.count c.in-Ok.merged.image
    (rw (sym c.deref.ensures.value) c.in-Ok.ensures.merged)

pub returns-clause-refused : goal.returns-clause-refused
returns-clause-refused c =
    unmerged_same c.args.options c.args.entries.items c.in_ok-ordered.ordered.items _
    c.in_ok-ordered.ensures.same (rw (sym c.deref.ensures.value) c.in-Err.ensures.refused)
