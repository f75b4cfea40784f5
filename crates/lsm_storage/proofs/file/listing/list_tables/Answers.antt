use Rattle.std.proofs.Common.{map}
use Rattle.std.specs.Prelude.{string_bytes}
use Rattle.lsm_storage.proofs.file.listing.list_tables.Goals as goal

-- the names that were listed
pub returns-in-Ok-clause-ok : goal.returns-in-Ok-clause-ok
returns-in-Ok-clause-ok g c = (map string_bytes c.in_ok-names.names.items, c.in_ok-names.ensures.ok, rw c.as_slice.ensures.value at c.in-Ok.ensures.tables)
