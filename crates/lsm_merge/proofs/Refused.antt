-- Which call the shelf refused.
use Rattle.std.proofs.Common.{◌≡◌, ℕ, List, Option, Some, None, ◌∙◌, ap, sym, subst}
use Rattle.lsm_codec.specs.Entries.{Entry}
use Rattle.lsm_block.specs.declared.build_fault.BuildFault.{BuildFault}
use Rattle.lsm_block.specs.declared.build_fault.BuildFault.TheVariants as build
use Rattle.lsm_shelf.specs.Asked.{Asked, Put}
use Rattle.lsm_shelf.specs.declared.shelf_fault.ShelfFault.{ShelfFault}
use Rattle.lsm_shelf.specs.declared.shelf_fault.ShelfFault.TheVariants as shelf
use Rattle.lsm_table.specs.TableBuilding.{table_bytes}
use Rattle.lsm_table.specs.declared.table_fault.TableFault.TheVariants as table
use Rattle.lsm_table.specs.declared.table_options.TableOptions.{TableOptions}
use Rattle.lsm_table.specs.declared.read_fault.ReadFault.{ReadFault}
use Rattle.lsm_table.specs.declared.read_fault.ReadFault.TheVariants as read
use Rattle.lsm_reader.specs.Refusals.{IsReadRefusal}
use Rattle.lsm_merge.specs.declared.number_source.NumberFault.{NumberFault}
use Rattle.lsm_merge.specs.declared.number_source.NumberFault.TheVariants as numbers
use Rattle.lsm_merge.specs.declared.merge_fault.OutputFault.TheVariants.{TooLarge, Shelf}
use Rattle.lsm_merge.specs.declared.merge_fault.MergeFault.{MergeFault}
use Rattle.lsm_merge.specs.declared.merge_fault.MergeFault.TheVariants.{OutOfMemory, ReadFailed, PutFailed, UnknownTicket, NumbersSpent}
use Rattle.lsm_merge.specs.Causes.{IsUnasked, NamesRefused}
use Rattle.lsm_merge.specs.Outputs.{IsWrittenBy, Unfinished}
use Rattle.lsm_merge.specs.MergeFault.{of_build, of_numbers, of_put, of_read}

pub refused_read : (Refuses : Asked → ShelfFault → Type 0) (options : TableOptions) (n : ℕ) (f : ReadFault) → IsReadRefusal Refuses n f → NamesRefused Refuses options (of_read n f)
refused_read Refuses options n (read.Shelf shelf.OutOfMemory) h = tt
refused_read Refuses options n (read.Shelf shelf.Device) h = h
refused_read Refuses options n (read.Shelf shelf.Missing) h = h
refused_read Refuses options n (read.Shelf (shelf.Taken m)) h = h
refused_read Refuses options n (read.Table table.OutOfMemory) h = tt
refused_read Refuses options n (read.Table table.BadRestarts) h = tt
refused_read Refuses options n (read.Table (table.BadEntry o)) h = tt
refused_read Refuses options n (read.Table (table.OutOfOrder o)) h = tt
refused_read Refuses options n (read.Table table.ShortFile) h = tt
refused_read Refuses options n (read.Table table.BadMagic) h = tt
refused_read Refuses options n (read.Table table.BadHandle) h = tt
refused_read Refuses options n (read.Table (table.BadChecksum o)) h = tt
refused_read Refuses options n (read.Table (table.Compressed k)) h = tt
refused_read Refuses options n (read.Table (table.BadBlockType k)) h = tt
refused_read Refuses options n (read.Table table.BadIndex) h = tt

pub refused_put : (Refuses : Asked → ShelfFault → Type 0) (options : TableOptions) (n : ℕ) (es : List Entry) (image : List ℕ) (f : ShelfFault) → image ≡ table_bytes options es → Refuses (Put n image) f
    → NamesRefused Refuses options (of_put n f)
refused_put Refuses options n es image shelf.OutOfMemory same h = tt
refused_put Refuses options n es image shelf.Device same h = (es, subst (λ (i : List ℕ). Refuses (Put n i) shelf.Device) same h)
refused_put Refuses options n es image shelf.Missing same h = (es, subst (λ (i : List ℕ). Refuses (Put n i) shelf.Missing) same h)
refused_put Refuses options n es image (shelf.Taken m) same h = (es, subst (λ (i : List ℕ). Refuses (Put n i) (shelf.Taken m)) same h)

pub refused_build : (Refuses : Asked → ShelfFault → Type 0) (options : TableOptions) (n : ℕ) (f : BuildFault) → NamesRefused Refuses options (of_build n f)
refused_build Refuses options n build.OutOfMemory = tt
refused_build Refuses options n build.TooLarge = tt

pub unasked_build : (n : ℕ) (f : BuildFault) → IsUnasked (of_build n f)
unasked_build n build.OutOfMemory = tt
unasked_build n build.TooLarge = tt

pub unasked_numbers : (f : NumberFault) → IsUnasked (of_numbers f)
unasked_numbers numbers.OutOfMemory = tt
unasked_numbers (numbers.UnknownTicket t) = tt
unasked_numbers numbers.NumbersSpent = tt

pub refused_unasked : (Refuses : Asked → ShelfFault → Type 0) (options : TableOptions) (e : MergeFault) → IsUnasked e → NamesRefused Refuses options e
refused_unasked Refuses options OutOfMemory h = tt
refused_unasked Refuses options (ReadFailed n f) h = absurd h
refused_unasked Refuses options (PutFailed n TooLarge) h = tt
refused_unasked Refuses options (PutFailed n (Shelf f)) h = absurd h
refused_unasked Refuses options (UnknownTicket t) h = tt
refused_unasked Refuses options NumbersSpent h = tt

-- the sizes of an output in the making are the job's
pub written_by : (options : TableOptions) (last : Option Unfinished) (o : Unfinished) → IsWrittenBy options last → last ≡ Some o → o.options ≡ options
written_by options None o w is = absurd (cc is)
written_by options (Some q) o w is = (let z : q ≡ o = (cc is) in sym (ap (λ (u : Unfinished). u.options) z) ∙ w.0)
