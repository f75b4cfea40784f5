-- What a command answers, by what opening the directory and asking it answer.
use Rattle.std.proofs.Common.{◌≢◌, ℕ, List, Bool, Option, IfErr, OnOk, ◌≡◌, inl, inr, sym}
use Rattle.std.specs.Prelude.{Result, Ok, Err, IsFalse, IsTrue}
use Rattle.std.specs.Io.KnownBytes.{Keeps}
use Rattle.std.proofs.KnownBytes.{Keeps-refl, Keeps-trans}
use Rattle.lsm_shelf.specs.Asked.{Asked}
use Rattle.lsm_shelf.specs.Told.{Told, Becomes, Counted, finding, listing}
use Rattle.lsm_shelf.specs.declared.shelf_fault.ShelfFault.{ShelfFault}
use Rattle.lsm_shelf.specs.declared.shelf_fault.ShelfFault.TheVariants as shelf_faults
use Rattle.lsm_shelf.proofs.CallerLemmas.{becomes_same, becomes_then}
use Rattle.lsm_table.specs.ReadFault.{ReadCounted}
use Rattle.lsm_table.specs.declared.read_fault.ReadFault.{ReadFault}
use Rattle.lsm_table.specs.declared.read_fault.ReadFault.TheVariants.{Shelf as ShelfOfRead}
use Rattle.lsm_table.specs.declared.read_fault.ReadFault.TheVariants.{Table as TableOfRead}
use Rattle.lsm_table.proofs.CallerLemmas.{read_counted_later}
use Rattle.lsm_journal.specs.declared.manifest_limit.ManifestLimit.{ManifestLimit}
use Rattle.lsm_journal.specs.Finding.{IsFindRefusal, IsFound}
use Rattle.lsm_journal.specs.HeldManifest.{HeldManifest}
use Rattle.lsm_journal.specs.Recovering.{IsRecoverRefusal}
use Rattle.lsm_journal.specs.declared.open_fault.OpenFault.{OpenFault}
use Rattle.lsm_journal.specs.declared.open_fault.OpenFault.TheVariants as open_faults
use Rattle.lsm_journal.specs.declared.recover_fault.RecoverFault.{RecoverFault}
use Rattle.lsm_journal.specs.declared.recover_fault.RecoverFault.TheVariants as recover_faults
use Rattle.lsm_version.specs.Versions.{Levels}
use Rattle.lsm_requests.specs.declared.directory_command.DirectoryCommand.{DirectoryCommand}
use Rattle.lsm_requests.specs.declared.directory_command.DirectoryCommand.TheVariants.{
  Check,
  List as ListFiles,
  Get,
  Scan,
}
use Rattle.lsm_directory.specs.DirectoryFault.{of_open}
use Rattle.lsm_directory.specs.Beside.{IsFirstLeftOut, IsWhole}
use Rattle.lsm_cmd_read.specs.Answers.{Asking, HasNoNote, IsLookedIntoAsGiven, IsLookFault}
use Rattle.lsm_cmd_read.specs.Answers.{IsNotLookedInto, IsPerformFault, Leaves, Moment, Prints}
use Rattle.lsm_cmd_read.specs.Answers.{PrintsBefore, ReliesOn, SaysAbsent, moment}
use Rattle.lsm_text.specs.declared.form.Form.{Form}
use Rattle.lsm_cmd_read.specs.Directory.{AreGiven, Holds, OnlyReads}
use Rattle.lsm_cmd_read.specs.Opening.{IsOpenRefusal}
use Rattle.lsm_directory.specs.declared.folder.beside.Beside.{Beside}
use Rattle.lsm_directory.specs.declared.folder.named_manifest.NamedManifest.{NamedManifest}
use Rattle.lsm_directory.specs.declared.faults.directory_fault.DirectoryFault.{DirectoryFault}
use Rattle.lsm_directory.specs.declared.faults.directory_fault.DirectoryFault.TheVariants.{
  OutOfMemory,
  Write,
  Shelf,
  Manifest,
  Tables,
  Read,
  NumbersSpent,
  Locked,
  UnflushedLog,
  TornManifest,
  LaterManifest,
  RocksDbFiles,
  Absent,
}

-- after later reads of tables
pub holds_later : (Honest : Type 0) (was mid is : Told) (v : Levels) (m : NamedManifest)
    → Becomes mid is → Holds Honest was mid v m → Holds Honest was is v m
holds_later Honest was mid is v m b h = record {
  held = h.held;
  limit = h.limit;
  next = h.next;
  found = record {
    shape = h.found.shape;
    listed = h.found.listed;
    loaded = h.found.loaded;
    limit_is = h.found.limit_is;
    least = h.found.least;
    fits = h.found.fits;
    told = becomes_then (listing h.found.listed (finding h.held.number h.held.bytes was)) mid is
        h.found.told b;
  };
  numbered = h.numbered;
  logs = h.logs;
  previous = h.previous;
}

shelf_counted_from : (e : ShelfFault) (listed : List ℕ) (number : ℕ) (bytes : List ℕ)
    (was is : Told) → Counted e (listing listed (finding number bytes was)) is → Counted e was is
shelf_counted_from shelf_faults.OutOfMemory listed number bytes was is c = c
shelf_counted_from shelf_faults.Device listed number bytes was is c = c
shelf_counted_from shelf_faults.Missing listed number bytes was is c = c
shelf_counted_from (shelf_faults.Taken n) listed number bytes was is c = c

-- a refusal after the manifest was read and the tables were listed
pub counted_from : (e : ReadFault) (listed : List ℕ) (number : ℕ) (bytes : List ℕ) (was is : Told)
    → ReadCounted e (listing listed (finding number bytes was)) is → ReadCounted e was is
counted_from (ShelfOfRead fault) listed number bytes was is k =
    (k.0, shelf_counted_from fault listed number bytes was is k.1)
counted_from (TableOfRead fault) listed number bytes was is k = tt

pub read_counted_from : (Honest : Type 0) (e : ReadFault) (was mid is : Told) (v : Levels)
    (m : NamedManifest) → Holds Honest was mid v m → ReadCounted e mid is → ReadCounted e was is
read_counted_from Honest e was mid is v m h c =
    counted_from e h.found.listed h.held.number h.held.bytes was is
    (read_counted_later e (listing h.found.listed (finding h.held.number h.held.bytes was)) mid
    is h.found.told c)

-- ---- a directory that is not opened

module _ (Stored : ℕ → List ℕ → Type 0) (Refused : Asked → ShelfFault → Type 0) (Honest : Type 0)
  where
    pub open_refused : (e : OpenFault) (was is : Told) → IsFindRefusal Stored Refused Honest e was is
        → IsOpenRefusal Stored Refused Honest (of_open e) was is
    open_refused open_faults.OutOfMemory was is h = h
    open_refused (open_faults.Shelf e) was is h = h
    open_refused (open_faults.Recover e) was is h = h
    open_refused (open_faults.Check e) was is h = h
    open_refused open_faults.NumbersSpent was is h = h

    pub fault_from_open : (asked : Asking) (e : DirectoryFault) (was is : Told)
        → IsOpenRefusal Stored Refused Honest e was is
        → IsLookFault asked Stored Refused Honest e was is
    fault_from_open asked OutOfMemory was is h = tt
    fault_from_open asked Write was is h = absurd h
    fault_from_open asked (Shelf e) was is h = h
    fault_from_open asked (Manifest e) was is h = h
    fault_from_open asked (Tables e) was is h = h
    fault_from_open asked (Read e) was is h = absurd h
    fault_from_open asked NumbersSpent was is h = h
    fault_from_open asked Locked was is h = absurd h
    fault_from_open asked (UnflushedLog number) was is h = absurd h
    fault_from_open asked (TornManifest rest) was is h = absurd h
    fault_from_open asked (LaterManifest later) was is h = absurd h
    fault_from_open asked RocksDbFiles was is h = absurd h
    fault_from_open asked Absent was is h = absurd h

    -- where nothing was written, a refusal to open leaves what it may
    pub keeps_leaves : (asked : Asking) (fault : DirectoryFault) (was is : Told)
        (old : Option (List ℕ))
        → IsOpenRefusal Stored Refused Honest fault was is
        → Leaves asked Stored Honest fault (moment was old) (moment is old)
    keeps_leaves asked OutOfMemory was is old f = inl (Keeps-refl old)
    keeps_leaves asked Write was is old f = absurd f
    keeps_leaves asked (Shelf fault) was is old f = Keeps-refl old
    keeps_leaves asked (Manifest fault) was is old f = Keeps-refl old
    keeps_leaves asked (Tables fault) was is old f = Keeps-refl old
    keeps_leaves asked (Read fault) was is old f = absurd f
    keeps_leaves asked NumbersSpent was is old f = Keeps-refl old
    keeps_leaves asked Locked was is old f = absurd f
    keeps_leaves asked (UnflushedLog number) was is old f = absurd f
    keeps_leaves asked (TornManifest rest) was is old f = absurd f
    keeps_leaves asked (LaterManifest later) was is old f = absurd f
    keeps_leaves asked RocksDbFiles was is old f = absurd f
    keeps_leaves asked Absent was is old f = absurd f

    -- ---- something is left out

    pub left_out : (asked : Asking) (e : DirectoryFault) (was is : Told) (v : Levels)
        (m : NamedManifest) → Holds Honest was is v m → AreGiven Stored v
        → IsTrue asked.strict × IsFirstLeftOut m asked.beside e
        → IsLookFault asked Stored Refused Honest e was is
    left_out asked OutOfMemory was is v m h given l = absurd l.1
    left_out asked Write was is v m h given l = absurd l.1
    left_out asked (Shelf e) was is v m h given l = absurd l.1
    left_out asked (Manifest e) was is v m h given l = absurd l.1
    left_out asked (Tables e) was is v m h given l = absurd l.1
    left_out asked (Read e) was is v m h given l = absurd l.1
    left_out asked NumbersSpent was is v m h given l = absurd l.1
    left_out asked Locked was is v m h given l = absurd l.1
    left_out asked (UnflushedLog number) was is v m h given l = (l.0, (v, m, h, given, l.1))
    left_out asked (TornManifest torn) was is v m h given l = (l.0, (v, m, h, given, l.1))
    left_out asked (LaterManifest later) was is v m h given l = (l.0, (v, m, h, given, l.1))
    left_out asked RocksDbFiles was is v m h given l = (l.0, (v, m, h, given, l.1))
    left_out asked Absent was is v m h given l = absurd l.1

    pub left_out_leaves : (asked : Asking) (e : DirectoryFault) (was is : Told) (m : NamedManifest)
        (beside : Beside) (old : Option (List ℕ)) → IsFirstLeftOut m beside e
        → Leaves asked Stored Honest e (moment was old) (moment is old)
    left_out_leaves asked OutOfMemory was is m beside old l = absurd l
    left_out_leaves asked Write was is m beside old l = absurd l
    left_out_leaves asked (Shelf e) was is m beside old l = absurd l
    left_out_leaves asked (Manifest e) was is m beside old l = absurd l
    left_out_leaves asked (Tables e) was is m beside old l = absurd l
    left_out_leaves asked (Read e) was is m beside old l = absurd l
    left_out_leaves asked NumbersSpent was is m beside old l = absurd l
    left_out_leaves asked Locked was is m beside old l = absurd l
    left_out_leaves asked (UnflushedLog number) was is m beside old l = Keeps-refl old
    left_out_leaves asked (TornManifest torn) was is m beside old l = Keeps-refl old
    left_out_leaves asked (LaterManifest later) was is m beside old l = Keeps-refl old
    left_out_leaves asked RocksDbFiles was is m beside old l = Keeps-refl old
    left_out_leaves asked Absent was is m beside old l = absurd l

    -- ---- an open directory

    fault_later : (asked : Asking) (was mid is : Told) (v : Levels) (m : NamedManifest)
        (fault : DirectoryFault)
        → Becomes mid is → Holds Honest was mid v m → AreGiven Stored v
        → IsPerformFault Honest asked.command v fault mid is
        → IsLookFault asked Stored Refused Honest fault was is
    fault_later asked was mid is v m OutOfMemory b h given f = f
    fault_later asked was mid is v m Write b h given f =
        (v, (m, holds_later Honest was mid is v m b h, given))
    fault_later asked was mid is v m (Shelf fault) b h given f = absurd f
    fault_later asked was mid is v m (Manifest fault) b h given f = absurd f
    fault_later asked was mid is v m (Tables fault) b h given f = absurd f
    fault_later asked was mid is v m (Read fault) b h given f = (
      v,
      (m, holds_later Honest was mid is v m b h, given),
      f.0,
      read_counted_from Honest fault was
          mid is v m h f.1,
    )
    fault_later asked was mid is v m NumbersSpent b h given f = absurd f
    fault_later asked was mid is v m Locked b h given f = absurd f
    fault_later asked was mid is v m (UnflushedLog number) b h given f = absurd f
    fault_later asked was mid is v m (TornManifest torn) b h given f = absurd f
    fault_later asked was mid is v m (LaterManifest later) b h given f = absurd f
    fault_later asked was mid is v m RocksDbFiles b h given f = absurd f
    fault_later asked was mid is v m Absent b h given f =
        (v, (m, holds_later Honest was mid is v m b h, given), f)

    pub is_fault : {T : Type 0} (r : Result T DirectoryFault) (asked : Asking) (was mid is : Told)
        (v : Levels) (m : NamedManifest)
        → Becomes mid is → Holds Honest was mid v m → AreGiven Stored v
        → IfErr r (λ e. IsPerformFault Honest asked.command v e mid is)
        → IfErr r (λ e. IsLookFault asked Stored Refused Honest e was is)
    is_fault (Ok x) asked was mid is v m b h given f = search
    is_fault (Err e) asked was mid is v m b h given f = fault_later asked was mid is v m e b h given f

pub is_done : {T : Type 0} (r : Result T DirectoryFault) (asked : Asking) (Stored : ℕ → List ℕ
    → Type 0) (Honest : Type 0) (was mid is : Told) (v : Levels) (m : NamedManifest)
    (old new said judged noted told : Option (List ℕ)) → Becomes mid is → Holds Honest was mid v m
    → (IsTrue asked.strict → IsWhole m asked.beside) → AreGiven Stored v
    → (ReliesOn Honest asked.command
    → OnOk r (Prints asked.form asked.command v m asked.beside old new))
    → (IsFalse asked.progress → Keeps said judged)
    → (HasNoNote asked.command m asked.beside → Keeps judged noted)
    → (IsFalse asked.progress → Keeps noted told)
    → OnOk r (IsLookedIntoAsGiven asked Stored Honest (moment was old) (moment is new) said
    told)
is_done (Ok x) asked Stored Honest was mid is v m old new said judged noted told b h all given w j q
    k = record {
      looked = record {
        version = v;
        manifest = m;
        holds = holds_later Honest was mid is v m b h;
        whole = all;
        printed = w;
        quiet = λ quiet none. Keeps-trans said noted told
            (Keeps-trans said judged noted (j quiet) (q none)) (k quiet);
      };
      given = given;
    }
is_done (Err e) asked Stored Honest was mid is v m old new said judged noted told b h all given w j
    q k = search

-- an absent key leaves what is written before a fault by a read of a key: nothing
absent_leaves : (form : Form) (command : DirectoryCommand) (Honest : Type 0) (v : Levels)
    (old new : Option (List ℕ)) → SaysAbsent Honest command v
    → PrintsBefore form command Honest v old new → Keeps old new
absent_leaves form (Check workers) Honest v old new says p = p
absent_leaves form ListFiles Honest v old new says p = p
absent_leaves form (Get key output) Honest v old new says p = p
absent_leaves form (Scan options) Honest v old new says p = absurd says

leaves_later : (asked : Asking) (Stored : ℕ → List ℕ → Type 0) (Honest : Type 0)
    (fault : DirectoryFault) (was mid is : Told) (v : Levels) (m : NamedManifest)
    (old new : Option (List ℕ))
    → Becomes mid is → Holds Honest was mid v m → AreGiven Stored v
    → IsPerformFault Honest asked.command v fault mid is
    → (fault ≢ Write → PrintsBefore asked.form asked.command Honest v old new)
    → Leaves asked Stored Honest fault (moment was old) (moment is new)
leaves_later asked Stored Honest OutOfMemory was mid is v m old new b h given f p =
    inr (v, (m, holds_later Honest was mid is v m b h, given), p (λ e. cc))
leaves_later asked Stored Honest Write was mid is v m old new b h given f p = tt
leaves_later asked Stored Honest (Shelf fault) was mid is v m old new b h given f p = absurd f
leaves_later asked Stored Honest (Manifest fault) was mid is v m old new b h given f p = absurd f
leaves_later asked Stored Honest (Tables fault) was mid is v m old new b h given f p = absurd f
leaves_later asked Stored Honest (Read fault) was mid is v m old new b h given f p =
    (v, (m, holds_later Honest was mid is v m b h, given), p (λ e. cc))
leaves_later asked Stored Honest NumbersSpent was mid is v m old new b h given f p = absurd f
leaves_later asked Stored Honest Locked was mid is v m old new b h given f p = absurd f
leaves_later asked Stored Honest (UnflushedLog number) was mid is v m old new b h given f p =
    absurd f
leaves_later asked Stored Honest (TornManifest torn) was mid is v m old new b h given f p = absurd f
leaves_later asked Stored Honest (LaterManifest later) was mid is v m old new b h given f p =
    absurd f
leaves_later asked Stored Honest RocksDbFiles was mid is v m old new b h given f p = absurd f
leaves_later asked Stored Honest Absent was mid is v m old new b h given f p =
    absent_leaves asked.form asked.command Honest v old new f (p (λ e. cc))

pub is_left : {T : Type 0} (r : Result T DirectoryFault) (asked : Asking) (Stored : ℕ → List ℕ
    → Type 0) (Honest : Type 0) (was mid is : Told) (v : Levels) (m : NamedManifest)
    (old new : Option (List ℕ))
    → Becomes mid is → Holds Honest was mid v m → AreGiven Stored v
    → IfErr r (λ e. IsPerformFault Honest asked.command v e mid is)
    → IfErr r (λ e. e ≢ Write → PrintsBefore asked.form asked.command Honest v old new)
    → IfErr r (λ e. Leaves asked Stored Honest e (moment was old) (moment is new))
is_left (Ok x) asked Stored Honest was mid is v m old new b h given f p = search
is_left (Err e) asked Stored Honest was mid is v m old new b h given f p =
    leaves_later asked Stored Honest e was mid is v m old new b h given f p

pub is_refused : {T : Type 0} (r : Result T DirectoryFault) (asked : Asking) (Stored : ℕ → List ℕ
    → Type 0) (Refused : Asked → ShelfFault → Type 0) (Honest : Type 0) (before after : Moment)
    → IfErr r (λ e. IsLookFault asked Stored Refused Honest e before.told after.told)
    → IfErr r (λ e. Leaves asked Stored Honest e before after)
    → IfErr r (λ e. IsNotLookedInto asked Stored Refused Honest e before after)
is_refused (Ok x) asked Stored Refused Honest before after f k = search
is_refused (Err e) asked Stored Refused Honest before after f k = record { says = f; left = k }

-- memory ran out before anything was written
pub memory_refused : (asked : Asking) (Stored : ℕ → List ℕ → Type 0) (Refused : Asked → ShelfFault
    → Type 0) (Honest : Type 0) (told : Told) (out : Option (List ℕ))
    → IsNotLookedInto asked Stored Refused Honest OutOfMemory (moment told out) (moment told out)
memory_refused asked Stored Refused Honest told out =
    record { says = tt; left = inl (Keeps-refl out) }

-- ---- nothing but reads

pub reads_none : (t : Told) → OnlyReads t t
reads_none t = inl (becomes_same t)

-- the manifest was refused
pub recover_reads : (Refused : Asked → ShelfFault → Type 0) (e : RecoverFault) (was is : Told)
    → IsRecoverRefusal Refused e was is → OnlyReads was is
recover_reads Refused (recover_faults.Shelf e) was is r = inl r.0
recover_reads Refused (recover_faults.Log e) was is r = let gave =
    r.1 in inr (gave.0, r.0, inl gave.1)
recover_reads Refused (recover_faults.Edit e) was is r = let gave =
    r.1 in inr (gave.0, r.0, inl gave.1)
recover_reads Refused (recover_faults.Replay e) was is r = let gave =
    r.1 in inr (gave.0, r.0, inl gave.1)

-- or what it names
pub reads_refused : (Stored : ℕ → List ℕ → Type 0) (Refused : Asked → ShelfFault → Type 0)
    (Honest : Type 0) (e : OpenFault) (was is : Told)
    → IsFindRefusal Stored Refused Honest e was is → OnlyReads was is
reads_refused Stored Refused Honest open_faults.OutOfMemory was is r =
    inr (r.held.number, r.held.bytes, r.told)
reads_refused Stored Refused Honest (open_faults.Shelf e) was is r =
    inr (r.held.number, r.held.bytes, inl r.told)
reads_refused Stored Refused Honest (open_faults.Recover e) was is r =
    recover_reads Refused e was is r
reads_refused Stored Refused Honest (open_faults.Check e) was is r =
    inr (r.held.number, r.held.bytes, inl r.told)
reads_refused Stored Refused Honest open_faults.NumbersSpent was is r =
    inr (r.held.number, r.held.bytes, inr (r.listed, r.told))

-- a directory that was found
pub found_held : (Honest : Type 0) (limit : ManifestLimit) (h : HeldManifest) (v : Levels) (m : NamedManifest)
    (next : ℕ) (was is : Told) → IsFound Honest limit h v m.rest next was is → m.number ≡ h.number
    → m.log ≡ h.log
    → m.prev_log ≡ h.prev_log → Holds Honest was is v m
found_held Honest limit h v m next was is f numbered logs previous =
    record {
      held = h;
      limit = limit;
      next = next;
      found = f;
      numbered = sym numbered;
      logs =
          sym logs;
      previous = sym previous;
    }

pub reads_found : (Honest : Type 0) (limit : ManifestLimit) (h : HeldManifest) (v : Levels) (rest next : ℕ)
    (was is : Told) → IsFound Honest limit h v rest next was is → OnlyReads was is
reads_found Honest limit h v rest next was is f = inr (h.number, h.bytes, inr (f.listed, f.told))

pub reads_later : (was mid is : Told) → OnlyReads was mid → Becomes mid is → OnlyReads was is
reads_later was mid is (inl b) c = inl (becomes_then was mid is b c)
reads_later was mid is (inr (number, bytes, inl b)) c =
    inr (number, bytes, inl (becomes_then (finding number bytes was) mid is b c))
reads_later was mid is (inr (number, bytes, inr (listed, b))) c =
    inr (
      number,
      bytes,
      inr
          (listed, becomes_then (listing listed (finding number bytes was)) mid is b c),
    )
