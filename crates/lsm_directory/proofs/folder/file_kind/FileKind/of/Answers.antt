use Rattle.lsm_directory.proofs.FileKindLaws.{no_name, not_same}
use Rattle.lsm_directory.proofs.folder.file_kind.FileKind.of.Goals as goal

pub returns-in-None-clause-other : goal.returns-in-None-clause-other
returns-in-None-clause-other c = λ same.
    no_name c.args.name.now (not_same _ _ _ c.eq.ensures c.if-eq.false) (not_same _ _ _ c.eq-2.ensures c.if-eq-2.false)
    (λ n is. let e = c.in-None.ensures.found n is in absurd cc) (c.of_ending.ensures.other same)
