use Rattle.lsm_directory.specs.declared.folder.file_kind.FileKind.TheVariants.{Manifest}
use Rattle.lsm_opening.proofs.names.manifest_in.Goals as goal

pub returns-in_default-clause-found : goal.returns-in_default-clause-found
returns-in_default-clause-found c = λ n h. absurd (c.in_default.not-Manifest n (c.kind_of.ensures.found (Manifest n) h))
