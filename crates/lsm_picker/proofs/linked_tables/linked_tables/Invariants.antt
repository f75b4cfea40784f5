use Rattle.std.proofs.Common.{◌≤◌, length}
use Rattle.lsm_codec.specs.Lists.{Has}
use Rattle.lsm_table.specs.Registry.{Table}
use Rattle.lsm_version.specs.Versions.{IsSound, level_in}
use Rattle.lsm_picker.proofs.Growing.{IsGrown}
use Rattle.lsm_picker.proofs.linked_tables.linked_tables.Given as goal

abbrev pub invariant-loop : goal.invariant-loop
invariant-loop g l = record {
  of_level : (t : Table) → Has l.tables.items t → Has (level_in l.version.tables l.level) t;
  grown : g.S.Shelf.honest → IsSound l.version → IsGrown l.version l.level l.from l.to l.tables.items;
  long : l.counter ≤ length l.tables.items;
}
