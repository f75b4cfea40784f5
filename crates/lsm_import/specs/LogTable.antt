-- A table of logs that is put on no shelf (this project's rule).
use Rattle.std.specs.Prelude.{◌≡◌, ℕ, List, Option, Some, None}
use Rattle.lsm_shelf.specs.Asked.{Asked}
use Rattle.lsm_shelf.specs.declared.shelf_fault.ShelfFault.{ShelfFault}
use Rattle.lsm_import.specs.declared.log_table.LogTable.{LogTable}

-- there is a table, and it has this number and this image
abbrev pub IsMade : Option LogTable → ℕ → List ℕ → Type 0
IsMade None number image = ⊥
IsMade (Some table) number image = (table.number ≡ number) × (table.image.items ≡ image)

-- no shelf is asked, and so none refuses
abbrev pub NoneRefuses : Asked → ShelfFault → Type 0
NoneRefuses asked fault = ⊥
