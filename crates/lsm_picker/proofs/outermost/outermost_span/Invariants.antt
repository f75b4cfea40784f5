use Rattle.std.proofs.Common.{take}
use Rattle.lsm_codec.specs.Lists.{Has}
use Rattle.lsm_table.specs.Registry.{Table}
use Rattle.lsm_picker.specs.Outermost.{LiesOutside}
use Rattle.lsm_picker.proofs.outermost.outermost_span.Given as goal

abbrev pub invariant-loop-table : goal.invariant-loop-table
invariant-loop-table g l = (t : Table) → Has (take l.table-index l.tables) t
    → LiesOutside l.version t → ⊥
