use Rattle.std.proofs.Common.{[]}
use Rattle.lsm_manifest.specs.EditWriting.{edit_text}
use Rattle.lsm_repair.proofs.mending.manifest_bytes.Goals as goal

pub returns-clause-manifest : goal.returns-clause-manifest
returns-clause-manifest c = c.manifest_grows.ensures.grown [] (edit_text c.args.edit.now) []
    c.args.edit.now c.manifest_grows.ensures.none c.in_ok-encode.ensures.spelled
