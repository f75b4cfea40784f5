use Rattle.lsm_directory.specs.declared.folder.file_kind.FileKind.TheVariants.{Temporary}
use Rattle.lsm_opening.proofs.names.is_temporary.Goals as goal

pub returns-in_default-clause-no : goal.returns-in_default-clause-no
returns-in_default-clause-no c = λ e n h. c.in_default.not-Temporary n (c.kind_of.ensures.found (Temporary n) h)
