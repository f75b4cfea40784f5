-- Which call the shelf refused where a call of the state is refused (this project's rule).
use Rattle.std.specs.Prelude.{◌≡◌, ℕ, suc, ◌⊎◌, List}
use Rattle.lsm_shelf.specs.Asked.{Asked, ListTables, Put, Remove}
use Rattle.lsm_shelf.specs.Refusals.{IsWantOr}
use Rattle.lsm_shelf.specs.declared.shelf_fault.ShelfFault.{ShelfFault}
use Rattle.lsm_table.specs.Registry.{Table}
use Rattle.lsm_batch.specs.declared.write.Write.{Write}
use Rattle.lsm_journal.specs.Difference.{Difference, changed_by}
use Rattle.lsm_journal.specs.Sending.{asked_by}
use Rattle.lsm_merge.specs.Work.{Done}
use Rattle.lsm_state.specs.Collecting.{IsKeptNumber}
use Rattle.lsm_state.specs.Held.{Held}
use Rattle.lsm_state.specs.Ingesting.{IsTableOf, coming_in, entries_of, last_of, table_bytes_of}
use Rattle.lsm_state.specs.Installing.{IsInstallChange}
use Rattle.lsm_state.specs.declared.state_fault.StateFault.{StateFault}
use Rattle.lsm_state.specs.declared.state_fault.StateFault.TheVariants.{Shelf}

-- where the refusal is the shelf's, memory ran out, or it is of this kind
abbrev pub OnShelf : (ShelfFault → Type 0) → StateFault → Type 0
OnShelf Refused (Shelf fault) = IsWantOr Refused fault
OnShelf Refused e = Unit {0}

-- the write of the manifest that a change makes
abbrev pub changes_by : Held → Difference → Asked
changes_by h d = asked_by d (changed_by d h.slots.version) h.next h.journal

abbrev pub ChangeRefused : (Asked → ShelfFault → Type 0) → Held → Difference → ShelfFault → Type 0
ChangeRefused Refused h d fault = Refused (changes_by h d) fault

-- the put of the table that a batch makes, under the next number
abbrev pub PutRefused : (Asked → ShelfFault → Type 0) → Held → List Write → ShelfFault → Type 0
PutRefused Refused h ws fault = Refused (Put h.next (table_bytes_of h ws)) fault

-- that put, or the write of the manifest by which its table comes in
abbrev pub IngestRefused : (Asked → ShelfFault → Type 0) → Held → List Write → ShelfFault → Type 0
IngestRefused Refused h ws fault = PutRefused Refused h ws fault
    ⊎ ((t : Table) × IsTableOf (entries_of h ws) h.next t × (t.image ≡ table_bytes_of h ws)
    × ChangeRefused Refused (record h { next = suc h.next }) (coming_in t (last_of h ws)) fault)

-- the write of the manifest by which a result is installed
abbrev pub InstallRefused : (Asked → ShelfFault → Type 0) → Held → Done → ShelfFault → Type 0
InstallRefused Refused h d fault =
    (change : Difference) × IsInstallChange d h.slots.version.last change
    × ChangeRefused Refused h change fault

-- the listing of tables, or the removal of one that is not kept
abbrev pub CollectRefused : (Asked → ShelfFault → Type 0) → Held → ShelfFault → Type 0
CollectRefused Refused h fault =
    Refused ListTables fault ⊎ ((n : ℕ) × (IsKeptNumber h n → ⊥) × Refused (Remove n) fault)
