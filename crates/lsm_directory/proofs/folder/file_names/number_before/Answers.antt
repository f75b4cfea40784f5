use Rattle.lsm_directory.proofs.NameNumberLaws.{number_before_found}
use Rattle.lsm_directory.proofs.folder.file_names.number_before.Goals as goal

pub returns-in-Some-clause-found : goal.returns-in-Some-clause-found
returns-in-Some-clause-found c = λ n named. number_before_found _ _ _ _ n _ c.in-Some.ensures.cases.1.1 c.in-Some.ensures.cases.2 named (c.number_in.ensures.found n)
