-- Logs that are read up to the first fault, and what is told of it.
use Rattle.std.proofs.Common.{◌≡◌, ◌⊎◌, ℕ, suc, ◌+◌, ◌-◌, ◌<◌, Bool, true, List, [], ◌∷◌, ◌++◌}
use Rattle.std.proofs.Common.{length, take, drop, get_or, Option, None, Some, OnOk, OnErr, refl}
use Rattle.std.proofs.Common.{sym, ◌∙◌, inl, inr, arith, append-nil}
use Rattle.std.specs.Prelude.{IfNone, IfSome, MatchOption, Result, Ok, Err}
use Rattle.std.specs.Io.KnownBytes.{Appends, Keeps}
use Rattle.std.proofs.KnownBytes.{Appends-kept, Appends-nil}
use Rattle.std.proofs.lemmas.List.{length-drop, length-take-le}
use Rattle.lsm_text.specs.Printing.{Begins}
use Rattle.lsm_folder.specs.Calls.{Call}
use Rattle.lsm_shelf.specs.Asked.{Asked}
use Rattle.lsm_shelf.specs.Told.{Told}
use Rattle.lsm_shelf.specs.declared.shelf_fault.ShelfFault.{ShelfFault}
use Rattle.lsm_manifest.specs.Shape.{Form}
use Rattle.lsm_journal.specs.Recovering.{IsRecoverRefusal}
use Rattle.lsm_journal.specs.declared.recover_fault.RecoverFault.{RecoverFault}
use Rattle.lsm_directory.specs.declared.folder.folder_file.FolderFile.{FolderFile}
use Rattle.lsm_wal.specs.Front.{IsFront}
use Rattle.lsm_wal.specs.WriteLog.{IsWriteLog, after}
use Rattle.lsm_wal.specs.WriteLogs.{AreInRow}
use Rattle.lsm_wal.specs.declared.write_batch.WriteBatch.{WriteBatch}
use Rattle.lsm_wal.specs.declared.write_log_fault.WriteLogFault.{WriteLogFault}
use Rattle.lsm_log_files.specs.Logs.{AreLogs, AreRead, AreUnread, IsGiven, IsUngiven, ReadsNext}
use Rattle.lsm_log_files.specs.Source.{HasShape, IsNoSource}
use Rattle.lsm_log_files.specs.Stops.{AreReadTo, IsBadLog, IsFrontSource, IsNoSourceTo, IsSourceTo}
use Rattle.lsm_log_files.specs.Stops.{ReadsFront}
use Rattle.lsm_log_files.specs.declared.log_stop.LogStop.{LogStop}
use Rattle.lsm_log_files.specs.declared.source_fault.SourceFault.{SourceFault}
use Rattle.lsm_log_files.specs.declared.source_fault.SourceFault.TheVariants.{OutOfMemory, Manifest}
use Rattle.lsm_log_files.specs.declared.source_fault.SourceFault.TheVariants.{UnreadLog, BadLog}
use Rattle.lsm_log_files.proofs.LogLaws.{parts_at}

-- ---- what is told

-- nothing was written
pub begun_none : (old new : Option (List ℕ)) (text : List ℕ) → Keeps old new → Begins old new text
begun_none old new text kept =
    (text, ([], Appends-kept old old new [] (Appends-nil old) kept, refl))

-- all was, or a beginning
pub begun_at_least : {T E : Type 0} (r : Result T E) (old new : Option (List ℕ)) (text : List ℕ)
    → OnOk r (Appends old new text) → OnErr r (Begins old new text) → Begins old new text
begun_at_least (Ok x) old new text written begun = ([], (text, written, sym (append-nil text)))
begun_at_least (Err e) old new text written begun = begun

pub none_told : (old : Option (List ℕ)) → Appends old old []
none_told old = Appends-nil old

-- ---- one log

pub reads_front : (number : ℕ) (before now : List WriteBatch) (bytes : List ℕ) (left : ℕ)
    (fault : Option WriteLogFault) (old new : List Call)
    → IfNone fault ((bs : List WriteBatch) × IsWriteLog bytes bs left × (now ≡ before ++ bs))
    → IfSome fault (λ e. (bs : List WriteBatch) × IsFront (after 0 before) bytes bs left e
    × (now ≡ before ++ bs)) → IsGiven number bytes old new
    → MatchOption fault (ReadsNext number before now 0 left old new)
    (λ e. ReadsFront number e left before now old new)
reads_front number before now bytes left None old new (bs, is, more) front given = record {
  log = record { number = number; bytes = bytes; batches = bs; rest = left };
  numbered = refl;
  is = is;
  more = more;
  sums = omega arith;
  call = given;
}
reads_front number before now bytes left (Some e) old new whole (bs, is, more) given = record {
  bytes = bytes;
  given = given;
  batches = bs;
  front = is;
  more = more;
}

-- with the bytes at the ends of those before
pub with_sum : (n : ℕ) (before now : List WriteBatch) (rest left sum : ℕ) (old new : List Call)
    → ReadsNext n before now 0 left old new → sum ≡ rest + left
    → ReadsNext n before now rest sum old new
with_sum n before now rest left sum old new r is =
    let sums = r.sums in
    record {
      log = r.log;
      numbered = r.numbered;
      is = r.is;
      more = r.more;
      sums = omega arith;
      call = r.call;
    }

-- what the folder did not give is not damaged
pub not_bad : (number : ℕ) (fault : SourceFault) (old new : List Call)
    → IsUngiven number fault old new → IsBadLog fault → ⊥
not_bad number fault old new (inl is) (n, e, bad) =
    let no : OutOfMemory ≡ BadLog n e = sym is ∙ bad in cc
not_bad number fault old new (inr (f, is, call)) (n, e, bad) =
    let no = sym is ∙ bad in cc

pub memory_not_bad : (fault : SourceFault) → fault ≡ OutOfMemory → IsBadLog fault → ⊥
memory_not_bad fault is (n, e, bad) = let no : OutOfMemory ≡ BadLog n e = sym is ∙ bad in cc

pub manifest_not_bad : (fault : SourceFault) (f : RecoverFault) → fault ≡ Manifest f
    → IsBadLog fault → ⊥
manifest_not_bad fault f is (n, e, bad) = let no : Manifest f ≡ BadLog n e = sym is ∙ bad in cc

-- ---- one after another

pub read_to : (numbers : List ℕ) (i : ℕ) (before now : List WriteBatch)
    (rest count later left : ℕ) (fault : WriteLogFault) (old mid new : List Call)
    → i < length numbers → AreRead (take i numbers) before rest old mid
    → ReadsFront (get_or numbers i 0) fault left before now mid new → count ≡ i + 1
    → later + count ≡ length numbers
    → AreReadTo (record { log = get_or numbers i 0; fault = fault; bytes = left; later = later })
    numbers now count rest old new
read_to numbers i before now rest count later left fault old mid new lt read last counted sum =
    let front = length-take-le i numbers (omega arith) in
    let back = length-drop (i + 1) numbers in
    record {
      front = take i numbers;
      back = drop (i + 1) numbers;
      parts = parts_at numbers i lt;
      counted = omega arith;
      later = omega arith;
      before = before;
      mid = mid;
      read = read;
      last = last;
    }

-- ---- all that is read

pub front_source : (stop : Option LogStop) (files : List FolderFile) (shape : Form)
    (batches : List WriteBatch) (count rest torn tail : ℕ) (numbers : List ℕ)
    (old new : List Call) (was is : Told) → HasShape shape torn was is
    → AreLogs shape.log shape.prev_log files numbers
    → MatchOption stop ((count ≡ length numbers) × AreRead numbers batches tail old new)
    (λ s. AreReadTo s numbers batches count tail old new) → AreInRow batches → rest ≡ torn + tail
    → IsSourceTo true stop files shape batches count rest old new was is
front_source None files shape batches count rest torn tail numbers old new was is has logs
    (counted, read) row rests = record {
      torn = torn;
      has = has;
      numbers = numbers;
      logs = logs;
      counted = counted;
      tail = tail;
      read = read;
      row = row;
      rests = rests;
    }
front_source (Some stop) files shape batches count rest torn tail numbers old new was is has logs
    read row rests = (
      refl,
      record {
        torn = torn;
        has = has;
        numbers = numbers;
        logs = logs;
        tail = tail;
        read = read;
        row = row;
        rests = rests;
      },
    )
