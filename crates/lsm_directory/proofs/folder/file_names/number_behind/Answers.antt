use Rattle.lsm_directory.proofs.NameNumberLaws.{number_behind_found}
use Rattle.lsm_directory.proofs.folder.file_names.number_behind.Goals as goal

pub returns-in-Some-clause-found : goal.returns-in-Some-clause-found
returns-in-Some-clause-found c = λ n named. number_behind_found _ _ _ _ n _ c.in-Some.ensures.cases.1.1 c.in-Some.ensures.cases.2 named (c.number_in.ensures.found n)
