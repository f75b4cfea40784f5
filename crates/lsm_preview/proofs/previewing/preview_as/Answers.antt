use Rattle.std.proofs.Common.{sym}
use Rattle.lsm_preview.proofs.previewing.preview_as.Goals as goal

pub returns-clause-refused : goal.returns-clause-refused
returns-clause-refused g c =
    rw (c.into_shelf.ensures.told, sym c.of-shelf.ensures) c.preview_named-seen.ensures.refused
