-- A table whose footer and index block were judged, and whose data blocks are judged when they are
-- read (this project's rule).
use Rattle.std.specs.Prelude.{◌≡◌, ℕ, ◌==◌, List, length, Result, Ok, Err}
use Rattle.lsm_codec.specs.Entries.{Entry}
use Rattle.lsm_block.specs.Reading.{block_at}
use Rattle.lsm_table.specs.declared.table_fault.TableFault.{TableFault}
use Rattle.lsm_table.specs.declared.table_fault.TableFault.TheVariants.{BadIndex}
use Rattle.lsm_table.specs.declared.read_fault.ReadFault.{ReadFault}
use Rattle.lsm_table.specs.declared.read_fault.ReadFault.TheVariants.{Shelf, Table}
use Rattle.lsm_table.specs.declared.handle.Handle.{Handle}
use Rattle.lsm_table.specs.declared.footer.Footer.{Footer}
use Rattle.lsm_table.specs.Reading.{◌>>=◌, guarded, settled, Fails}
use Rattle.lsm_table.specs.Handle.{handle_at}
use Rattle.lsm_table.specs.StoredBlock.{contents_at}
use Rattle.lsm_table.specs.Footer.{footer_at, body_of}
use Rattle.lsm_table.specs.TableReading.{block_or}
use Rattle.lsm_table.specs.HeldTable.{BlockAt}

-- the entries of a table's index block, or the first fault of its footer and its index block
unfoldable pub opening_at : List ℕ → Result (List Entry) TableFault
opening_at bytes = do
  footer ← footer_at bytes
  contents ← contents_at (body_of bytes) footer.index
  block_or (block_at contents)

-- The file has a footer, and the index block that it names is one.
pub record IsOpened (file : List ℕ) (index : Handle) : Type 0 where
  pub footer : Footer
  pub entries : List Entry
  pub footed : footer_at file ≡ Ok footer
  pub index_is : footer.index ≡ index
  pub block : BlockAt (body_of file) index entries

-- What opening answered is what reading the footer and the index block gives, unless the shelf
-- refused or memory ran out.
abbrev pub Opens : {X : Type 0} → Result X ReadFault → Result (List Entry) TableFault → Type 0
Opens (Ok t) read = settled read ≡ Ok tt
Opens (Err (Shelf fault)) read = Unit {0}
Opens (Err (Table fault)) read = Fails fault read

-- the entries of the block that the value of an index entry names, or the first fault of its handle
-- and the block
unfoldable pub block_named : List ℕ → List ℕ → Result (List Entry) TableFault
block_named body value = do
  handle ← handle_at BadIndex value
  contents ← guarded (length handle.1 == 0) BadIndex (contents_at body handle.0)
  block_or (block_at contents)
