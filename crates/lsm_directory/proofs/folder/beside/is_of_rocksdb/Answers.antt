use Rattle.lsm_directory.proofs.BesideLaws.{not_of_rocksdb}
use Rattle.lsm_directory.proofs.FileKindLaws.{not_same}
use Rattle.lsm_directory.proofs.folder.beside.is_of_rocksdb.Goals as goal

pub returns-in-None : goal.returns-in-None
returns-in-None c = not_of_rocksdb c.args.name.now (not_same _ _ _ c.eq.ensures c.if-eq.false)
    (λ n is. (let e = c.in-None.ensures.found n is in absurd cc))
