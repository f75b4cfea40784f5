use Rattle.std.proofs.Common.{◌∙◌}
use Rattle.lsm_directory.specs.Beside.{beside_text}
use Rattle.lsm_directory.proofs.BesideLaws.{both_noted}
use Rattle.lsm_directory.proofs.folder.notes.push_beside.Goals as goal

pub returns : goal.returns
returns c = both_noted c.push_rocksdb.result c.args.number c.args.beside.now _ _ _
    c.in_ok-push_manifest.ensures c.push_rocksdb.ensures
