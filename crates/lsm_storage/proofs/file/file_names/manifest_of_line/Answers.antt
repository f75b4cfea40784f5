use Rattle.lsm_storage.specs.FileNames.{manifest_name}
use Rattle.lsm_storage.proofs.file.file_names.manifest_of_line.Goals as goal

-- a line without a newline at its end names none
pub returns-in-None : goal.returns-in-None
returns-in-None c = λ n. ((λ none. cc), (λ small is. absurd (c.in-None.ensures.cases (manifest_name n) is)))
