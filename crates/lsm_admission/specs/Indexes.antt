-- The footers and index blocks of tables that were found, which an opening reads that is to write
-- (this project's rule: LevelDB reads them when it comes to a table).
use Rattle.std.specs.Prelude.{◌≡◌, ℕ, List, [], ◌∷◌, ◌++◌, Some, Ok}
use Rattle.lsm_codec.specs.Entries.{Entry}
use Rattle.lsm_codec.specs.Lists.{Has}
use Rattle.lsm_reader.specs.Refusals.{IsReadRefusal}
use Rattle.lsm_shelf.specs.Asked.{Asked}
use Rattle.lsm_shelf.specs.declared.shelf_fault.ShelfFault.{ShelfFault}
use Rattle.lsm_table.specs.OpenTable.{opening_at}
use Rattle.lsm_table.specs.Reading.{Fails}
use Rattle.lsm_table.specs.Registry.{Table}
use Rattle.lsm_table.specs.declared.read_fault.ReadFault.{ReadFault}
use Rattle.lsm_table.specs.declared.read_fault.ReadFault.TheVariants.{Shelf, Table as OfTable}
use Rattle.lsm_verify.specs.declared.check_fault.CheckFault.{CheckFault}
use Rattle.lsm_verify.specs.declared.check_fault.CheckFault.TheVariants.{Read, DoubleFile, Overlap}
use Rattle.lsm_verify.specs.declared.check_fault.CheckFault.TheVariants.{WrongRange, AgeOrder}

-- The image ends with a footer, and the index block that this names is one.
abbrev pub HasIndex : List ℕ → Type 0
HasIndex image = (es : List Entry) × (opening_at image ≡ Ok es)

-- the tables of all levels
abbrev pub all_tables : List (List Table) → List Table
all_tables [] = []
all_tables (ts ∷ levels) = ts ++ all_tables levels

-- each of these has an index
abbrev pub HaveIndexes : List Table → Type 0
HaveIndexes ts = (t : Table) → Has ts t → HasIndex t.image

-- ---- a table that has none

-- Where `Honest` holds this is the first fault of the image's footer and its index block, unless
-- memory ran out.
abbrev pub IsNoIndex : Type 0 → List ℕ → ReadFault → Type 0
IsNoIndex Honest image (Shelf fault) = Unit {0}
IsNoIndex Honest image (OfTable fault) = Honest → Fails fault (opening_at image)

-- The table is named: the shelf refused a read of its image, or it has no index.
abbrev pub IsIndexFault : (Asked → ShelfFault → Type 0) → Type 0 → Table → CheckFault → Type 0
IsIndexFault Refused Honest t (Read number fault) =
    (number ≡ Some t.number) × IsReadRefusal Refused t.number fault × IsNoIndex Honest t.image fault
IsIndexFault Refused Honest t (DoubleFile number) = ⊥
IsIndexFault Refused Honest t (Overlap level) = ⊥
IsIndexFault Refused Honest t (WrongRange number) = ⊥
IsIndexFault Refused Honest t (AgeOrder user) = ⊥

-- One of these tables is refused so, and each one before it has an index.
abbrev pub IsIndexRefusal : (Asked → ShelfFault → Type 0) → Type 0 → List Table → CheckFault
    → Type 0
IsIndexRefusal Refused Honest tables e =
    (front : List Table) × (t : Table) × (back : List Table) × (tables ≡ front ++ t ∷ back)
    × (Honest → HaveIndexes front) × IsIndexFault Refused Honest t e
