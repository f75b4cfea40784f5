-- Which call the shelf refused, as the parts of a check tell it.
use Rattle.std.proofs.Common.{◌≡◌, ℕ, List, Option, Some, None, sym, subst, inl, inr}
use Rattle.lsm_shelf.specs.Asked.{Asked, Load}
use Rattle.lsm_shelf.specs.declared.shelf_fault.ShelfFault.{ShelfFault}
use Rattle.lsm_table.specs.Registry.{Table}
use Rattle.lsm_table.specs.declared.read_fault.ReadFault.{ReadFault}
use Rattle.lsm_table.specs.declared.read_fault.ReadFault.TheVariants as read
use Rattle.lsm_manifest.specs.FileOrder.{TableFile}
use Rattle.lsm_query.specs.Unread.{IsOfFile}
use Rattle.lsm_verify.specs.declared.check_fault.CheckFault.{CheckFault}
use Rattle.lsm_verify.specs.declared.check_fault.CheckFault.TheVariants.{Read, DoubleFile, Overlap, WrongRange, AgeOrder}
use Rattle.lsm_verify.specs.AskedCalls.{IsCheckAsked, IsFileAsked, IsLookAsked}
use Rattle.lsm_verify.specs.CheckRefusal.{IsNumberRefusal}
use Rattle.lsm_verify.specs.FileRefusal.{IsFileRefusal, IsFilesRefusal, IsMemoryRefusal, NamesNone}
use Rattle.lsm_verify.specs.LevelLayouts.{IsLayoutRefusal}

none_asked : (P : ℕ → ReadFault → Type 0) (file : Option ℕ) (fault : ReadFault) → NamesNone file fault → IsOfFile P file fault
none_asked P None (read.Shelf f) h = absurd h
none_asked P None (read.Table f) h = tt
none_asked P (Some n) fault h = absurd h

pub numbers_asked : (Refuses : Asked → ShelfFault → Type 0) (ns : List ℕ) (e : CheckFault) → IsNumberRefusal ns e → IsCheckAsked Refuses e
numbers_asked Refuses ns (Read file fault) h = none_asked (IsFileAsked Refuses) file fault h
numbers_asked Refuses ns (DoubleFile n) h = tt
numbers_asked Refuses ns (Overlap n) h = tt
numbers_asked Refuses ns (WrongRange n) h = tt
numbers_asked Refuses ns (AgeOrder u) h = tt

pub layouts_asked : (Refuses : Asked → ShelfFault → Type 0) (levels : List (List Table)) (e : CheckFault) → IsLayoutRefusal levels e → IsCheckAsked Refuses e
layouts_asked Refuses levels (Read file fault) h = none_asked (IsFileAsked Refuses) file fault h
layouts_asked Refuses levels (DoubleFile n) h = tt
layouts_asked Refuses levels (Overlap n) h = tt
layouts_asked Refuses levels (WrongRange n) h = tt
layouts_asked Refuses levels (AgeOrder u) h = tt

memory_asked : (Refuses : Asked → ShelfFault → Type 0) (e : CheckFault) → IsMemoryRefusal e → IsCheckAsked Refuses e
memory_asked Refuses (Read file fault) h = none_asked (IsFileAsked Refuses) file fault h
memory_asked Refuses (DoubleFile n) h = tt
memory_asked Refuses (Overlap n) h = tt
memory_asked Refuses (WrongRange n) h = tt
memory_asked Refuses (AgeOrder u) h = tt

file_asked : (Refuses : Asked → ShelfFault → Type 0) (Stored : List ℕ → Type 0) (last : ℕ) (file : TableFile) (e : CheckFault) → IsFileRefusal Stored (Refuses (Load file.number)) last file e → IsCheckAsked Refuses e
file_asked Refuses Stored last file (Read n (read.Shelf f)) h = subst (λ (m : Option ℕ). IsOfFile (IsFileAsked Refuses) m (read.Shelf f)) (sym h.0) (inl h.1)
file_asked Refuses Stored last file (Read n (read.Table f)) h = subst (λ (m : Option ℕ). IsOfFile (IsFileAsked Refuses) m (read.Table f)) (sym h.0) tt
file_asked Refuses Stored last file (DoubleFile n) h = tt
file_asked Refuses Stored last file (Overlap n) h = tt
file_asked Refuses Stored last file (WrongRange n) h = tt
file_asked Refuses Stored last file (AgeOrder u) h = tt

pub files_asked : (Refuses : Asked → ShelfFault → Type 0) (Stored : ℕ → List ℕ → Type 0) (last : ℕ) (files : List TableFile) (e : CheckFault) → IsFilesRefusal Stored (λ number. Refuses (Load number)) last files e → IsCheckAsked Refuses e
files_asked Refuses Stored last files e (inl w) = memory_asked Refuses e w
files_asked Refuses Stored last files e (inr (front, file, back, is, good, r)) = file_asked Refuses (Stored file.number) last file e r

-- what a second look was refused
pub look_asked : (Refuses : Asked → ShelfFault → Type 0) (e : CheckFault) → IsLookAsked Refuses e → IsCheckAsked Refuses e
look_asked Refuses (Read None (read.Shelf f)) h = absurd h
look_asked Refuses (Read None (read.Table f)) h = tt
look_asked Refuses (Read (Some n) (read.Shelf f)) h = inr h
look_asked Refuses (Read (Some n) (read.Table f)) h = tt
look_asked Refuses (DoubleFile n) h = tt
look_asked Refuses (Overlap n) h = tt
look_asked Refuses (WrongRange n) h = tt
look_asked Refuses (AgeOrder u) h = tt
