use Rattle.std.proofs.Common.{map, take}
use Rattle.std.specs.Prelude.{string_bytes}
use Rattle.lsm_storage.proofs.Tables.{tables_next}
use Rattle.lsm_storage.proofs.file.listing.tables_among.Goals as goal

-- one name more
pub loop-name-preserved : goal.loop-name-preserved
loop-name-preserved c = tables_next string_bytes c.args.names.now c.loop-name.name-index c.name-item.result _ c.loop-name-test.true c.name-item.is (rw c.as_str.ensures.value at c.in_ok-add_table.ensures (map string_bytes (take c.loop-name.name-index c.args.names.now)) c.loop-name.invariant)
