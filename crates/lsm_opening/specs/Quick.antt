-- The state with which one begins whose database is opened quickly: its tables are found, and of
-- each its index is read, and no entry is judged (this project's rule; LevelDB judges none).
use Rattle.std.specs.Prelude.{◌≡◌, ◌⊎◌, ℕ, false, List}
use Rattle.lsm_pins.specs.Known.{Known}
use Rattle.lsm_shelf.specs.Asked.{Asked}
use Rattle.lsm_shelf.specs.declared.shelf_fault.ShelfFault.{ShelfFault}
use Rattle.lsm_shelf.specs.Told.{Told}
use Rattle.lsm_manifest.specs.Shape.{Form}
use Rattle.lsm_journal.specs.declared.open_fault.OpenFault.{OpenFault}
use Rattle.lsm_admission.specs.Indexes.{HaveIndexes, all_tables}
use Rattle.lsm_state.specs.Held.{Held}
use Rattle.lsm_state.specs.Opening.{opened_state}
use Rattle.lsm_state.specs.Options.{limit_of}
use Rattle.lsm_state.specs.Unjudged.{IsBegunUnjudged, IsUnjudgedRefusal}
use Rattle.lsm_state.specs.declared.options.Options.{Options}
use Rattle.lsm_directory.specs.Logs.{IsFirstUnread, NoneUnread}
use Rattle.lsm_directory.specs.declared.folder.folder_file.FolderFile.{FolderFile}
use Rattle.lsm_opening.specs.Starting.{IsRead, IsReopenedWith}
use Rattle.lsm_opening.specs.WriterFault.{of_open}
use Rattle.lsm_opening.specs.declared.faults.writer_fault.WriterFault.{WriterFault}
use Rattle.lsm_opening.specs.declared.faults.writer_fault.WriterFault.TheVariants.{OutOfMemory}
use Rattle.lsm_opening.specs.declared.faults.writer_fault.WriterFault.TheVariants.{UnflushedLog}

-- The state of a database that was opened, with these options.
pub record IsOpenedWith (o : Options) (h : Held) : Type 0 where
  pub publisher : Known
  pub pinners : List Known
  pub state : h ≡ opened_state o publisher pinners h.slots.version h.journal h.next false

-- The manifest that was read comes to the shape, by which none of these logs is one that LevelDB
-- would read. A table was found for each of its files, and a new manifest, which was sent, spells
-- their version. Where `Honest` holds each table has an index; where `Kept` holds too, this is the
-- state of an opening that judges every table.
pub record OpensQuickly (Keeps : ℕ → List ℕ → Type 0) (Honest Kept : Type 0) (o : Options)
    (shape : Form) (logs : List FolderFile) (h : Held) (was is : Told) : Type 0 where
  pub flushed : NoneUnread shape.log shape.prev_log logs
  pub state : IsOpenedWith o h
  pub begun : IsBegunUnjudged Keeps shape (limit_of o) h.journal h.slots.version h.next was is
  pub indexes : Honest → HaveIndexes (all_tables h.slots.version.tables)
  pub judged : Honest → Kept → IsReopenedWith (Honest × Kept) o h was is

-- Why not, once the manifest was read: by its numbers this is the first of the logs that LevelDB
-- would read; or memory ran out then; or the tables or the new manifest are refused.
abbrev pub IsNotOpenedQuickly : (ℕ → List ℕ → Type 0) → (Asked → ShelfFault → Type 0) → Type 0
    → Options → Form → List FolderFile → WriterFault → Told → Told → Type 0
IsNotOpenedQuickly Keeps Refused Honest o shape logs e was is =
    ((n : ℕ) × (e ≡ UnflushedLog n)
    × IsRead (λ read. IsFirstUnread read.log read.prev_log logs n) was is)
    ⊎ (((e ≡ OutOfMemory) × IsRead (λ read. Unit {0}) was is)
    ⊎ ((fault : OpenFault) × (e ≡ of_open fault)
    × IsUnjudgedRefusal Keeps Refused Honest shape (limit_of o) fault was is))
