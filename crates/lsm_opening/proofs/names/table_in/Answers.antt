use Rattle.std.proofs.Common.{◌≡◌, Some, ap}
use Rattle.lsm_directory.specs.declared.folder.file_kind.FileKind.TheVariants.{Table}
use Rattle.lsm_opening.proofs.names.table_in.Goals as goal

pub returns-in-Table-clause-found : goal.returns-in-Table-clause-found
returns-in-Table-clause-found c = λ n h. (let e = c.in-Table.ensures.found (Table n) h in let same : c.in-Table.number ≡ n = cc in ap Some same)

pub returns-in_default-clause-found : goal.returns-in_default-clause-found
returns-in_default-clause-found c = λ n h. absurd (c.in_default.not-Table n (c.kind_of.ensures.found (Table n) h))
