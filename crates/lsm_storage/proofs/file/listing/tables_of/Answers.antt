use Rattle.std.proofs.Common.{map}
use Rattle.std.specs.Prelude.{string_bytes}
use Rattle.lsm_storage.proofs.Tables.{tables_same}
use Rattle.lsm_storage.proofs.file.listing.tables_of.Goals as goal

-- putting them in order loses none
pub returns-clause-tables : goal.returns-clause-tables
returns-clause-tables c = tables_same (map string_bytes c.args.names.now) c.in_ok-numbers.numbers.items c.in_ok-ordered.ordered.items c.in_ok-ordered.ensures.all c.in_ok-numbers.ensures
