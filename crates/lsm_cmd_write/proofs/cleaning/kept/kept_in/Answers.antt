use Rattle.std.proofs.Common.{◌∙◌, ap}
use Rattle.lsm_shelf.specs.Told.{fresh}
use Rattle.lsm_cmd_write.proofs.RunLaws.{has_none, needs}
use Rattle.lsm_cmd_write.proofs.cleaning.kept.kept_in.Goals as goal

pub returns-clause-kept : goal.returns-clause-kept
returns-clause-kept g c =
    needs g.C.FolderCalls c.find_kept_as-kept.result.0 _ _ c.find_kept_as-kept.result.1 (c.over-shelf.ensures.fresh ∙ ap fresh c.in-Ok.ensures.fork.1) c.find_kept_as-kept.ensures.kept

pub returns-clause-refused : goal.returns-clause-refused
returns-clause-refused g c =
    has_none g.C.FolderCalls g.C.Mark.Mark c.find_kept_as-kept.result.0 _ _ c.find_kept_as-kept.result.1 (c.over-shelf.ensures.fresh ∙ ap fresh c.in-Ok.ensures.fork.1)
    c.find_kept_as-kept.ensures.refused
