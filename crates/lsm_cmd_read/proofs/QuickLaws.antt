-- What a quick command comes to, by what its parts come to.
use Rattle.std.proofs.Common.{◌≡◌, ◌≢◌, ℕ, List, Option, IfErr, IfOk, OnErr, OnOk, arith, inl, inr}
use Rattle.std.proofs.Common.{refl, sym, subst}
use Rattle.std.specs.Prelude.{Result, Ok, Err, IsFalse, IsTrue}
use Rattle.std.specs.Io.KnownBytes.{Keeps}
use Rattle.std.proofs.KnownBytes.{Keeps-refl, Keeps-trans}
use Rattle.lsm_folder.specs.Calls.{AreHonest}
use Rattle.lsm_folder.specs.declared.folder_calls.FolderCalls.{Ghosts}
use Rattle.lsm_folder.specs.declared.mark.Mark as mark
use Rattle.lsm_manifest.specs.Shape.{Form as Shape}
use Rattle.lsm_shelf.specs.Asked.{Asked}
use Rattle.lsm_shelf.specs.Place.{Place}
use Rattle.lsm_shelf.specs.Refusals.{MayRefuse}
use Rattle.lsm_shelf.specs.declared.shelf_fault.ShelfFault.{ShelfFault}
use Rattle.lsm_shelf.specs.Told.{Told, Becomes, finding, listing}
use Rattle.lsm_shelf.proofs.CallerLemmas.{becomes_then}
use Rattle.lsm_storage.specs.declared.file.file_shelf.FileShelf.{FileShelf}
use Rattle.lsm_version.specs.Versions.{Levels}
use Rattle.lsm_journal.specs.declared.manifest_limit.ManifestLimit.{ManifestLimit}
use Rattle.lsm_journal.specs.Finding.{IsFound, IsWithoutRoom}
use Rattle.lsm_journal.specs.HeldManifest.{HeldManifest}
use Rattle.lsm_journal.specs.Recovering.{IsRecovered, IsRecoverRefusal}
use Rattle.lsm_journal.specs.declared.open_fault.OpenFault.{OpenFault}
use Rattle.lsm_journal.specs.declared.open_fault.OpenFault.TheVariants as open_faults
use Rattle.lsm_journal.specs.declared.recover_fault.RecoverFault.{RecoverFault}
use Rattle.lsm_admission.specs.Admitted.{IsAdmitted, IsOpenRefusal}
use Rattle.lsm_admission.specs.Keeping.{KeepsTables}
use Rattle.lsm_requests.specs.declared.directory_command.DirectoryCommand.{DirectoryCommand}
use Rattle.lsm_requests.specs.declared.directory_command.DirectoryCommand.TheVariants.{
  Check,
  List as ListFiles,
  Get,
  Scan,
}
use Rattle.lsm_requests.specs.declared.directory_line.DirectoryLine.{DirectoryLine}
use Rattle.lsm_table.specs.ReadFault.{ReadCounted}
use Rattle.lsm_directory.specs.DirectoryFault.{of_open}
use Rattle.lsm_directory.specs.Beside.{IsFirstLeftOut, IsWhole, LooksBeside}
use Rattle.lsm_directory.specs.Folders.{IsShelfAt, stored_at, told_by}
use Rattle.lsm_directory.specs.declared.folder.beside.Beside.{Beside}
use Rattle.lsm_directory.specs.declared.folder.named_manifest.NamedManifest.{NamedManifest}
use Rattle.lsm_directory.specs.declared.faults.directory_fault.DirectoryFault.{DirectoryFault}
use Rattle.lsm_directory.specs.declared.faults.directory_fault.DirectoryFault.TheVariants.{
  OutOfMemory,
  Write,
  Shelf,
  Manifest,
  Tables,
  Read,
  NumbersSpent,
  Locked,
  UnflushedLog,
  TornManifest,
  LaterManifest,
  RocksDbFiles,
  Absent,
}
use Rattle.lsm_cmd_read.specs.Answers.{Asking, HasNoNote, IsLookedIntoAsGiven, IsPerformFault}
use Rattle.lsm_cmd_read.specs.Answers.{Moment, Prints, PrintsBefore, ReliesOn, asked_by, moment}
use Rattle.lsm_cmd_read.specs.Directory.{AreGiven, Holds, OnlyReads}
use Rattle.lsm_cmd_read.specs.Looked.{FailsAsItLies, FailsToLook, LooksAsItLies, LooksAt}
use Rattle.lsm_cmd_read.specs.Looked.{LooksAtGiven, LooksQuicklyAt, kept_at}
use Rattle.lsm_cmd_read.specs.Quick.{Admits, FailsQuickly, IsLeftOut, IsQuicklyLookedInto}
use Rattle.lsm_cmd_read.specs.Quick.{IsStopped, IsUnadmitted, IsUnanswered, IsUndone, LooksQuickly}
use Rattle.lsm_cmd_read.specs.Quick.{is_quick}
use Rattle.lsm_cmd_read.proofs.ReadingOutcomes.{counted_from, found_held, holds_later}
use Rattle.lsm_cmd_read.proofs.ReadingOutcomes.{recover_reads}
use Rattle.lsm_cmd_read.proofs.LookedLaws.{looks_quiet}
use Rattle.lsm_table.proofs.CallerLemmas.{read_counted_later}

-- ---- what is admitted

pub admitted_held : (Files Stored : ℕ → List ℕ → Type 0) (shape : Shape) (limit : ManifestLimit)
    (h : HeldManifest) (v : Levels) (m : NamedManifest) (next : ℕ) (was is : Told)
    → IsAdmitted Files shape limit h v m.rest next was is → m.number ≡ h.number → m.log ≡ h.log
    → m.prev_log ≡ h.prev_log → AreGiven Stored v → Admits Files Stored shape was is v m
admitted_held Files Stored shape limit h v m next was is a numbered logs previous given =
    record {
      held = h;
      limit = limit;
      next = next;
      admitted = a;
      numbered = sym numbered;
      logs =
          sym logs;
      previous = sym previous;
      given = given;
    }

-- after later reads of tables
admits_later : (Files Stored : ℕ → List ℕ → Type 0) (shape : Shape) (was mid is : Told) (v : Levels)
    (m : NamedManifest) → Becomes mid is → Admits Files Stored shape was mid v m
    → Admits Files Stored shape was is v m
admits_later Files Stored shape was mid is v m b a = record {
  held = a.held;
  limit = a.limit;
  next = a.next;
  admitted = record {
    listed = a.admitted.listed;
    recovered = a.admitted.recovered;
    found = a.admitted.found;
    limit_is = a.admitted.limit_is;
    least = a.admitted.least;
    fits = a.admitted.fits;
    told = becomes_then (listing a.admitted.listed (finding a.held.number a.held.bytes was)) mid is
        a.admitted.told b;
  };
  numbered = a.numbered;
  logs = a.logs;
  previous = a.previous;
  given = a.given;
}

read_counted_admitted : (Files Stored : ℕ → List ℕ → Type 0) (shape : Shape) (was mid is : Told)
    (v : Levels) (m : NamedManifest) → Admits Files Stored shape was mid v m
    → (Kept : Type 0) (command : DirectoryCommand) (e : DirectoryFault)
    → IsPerformFault Kept command v e mid is → IsPerformFault Kept command v e was is
read_counted_admitted Files Stored shape was mid is v m a Kept command OutOfMemory f = f
read_counted_admitted Files Stored shape was mid is v m a Kept command Write f = f
read_counted_admitted Files Stored shape was mid is v m a Kept command (Shelf fault) f = f
read_counted_admitted Files Stored shape was mid is v m a Kept command (Manifest fault) f = f
read_counted_admitted Files Stored shape was mid is v m a Kept command (Tables fault) f = f
read_counted_admitted Files Stored shape was mid is v m a Kept command (Read fault) f = (
  f.0,
  counted_from fault a.admitted.listed a.held.number a.held.bytes was is
      (read_counted_later fault
      (listing a.admitted.listed (finding a.held.number a.held.bytes was)) mid is a.admitted.told
      f.1),
)
read_counted_admitted Files Stored shape was mid is v m a Kept command NumbersSpent f = f
read_counted_admitted Files Stored shape was mid is v m a Kept command Locked f = f
read_counted_admitted Files Stored shape was mid is v m a Kept command (UnflushedLog number) f = f
read_counted_admitted Files Stored shape was mid is v m a Kept command (TornManifest torn) f = f
read_counted_admitted Files Stored shape was mid is v m a Kept command (LaterManifest later) f = f
read_counted_admitted Files Stored shape was mid is v m a Kept command RocksDbFiles f = f
read_counted_admitted Files Stored shape was mid is v m a Kept command Absent f = f

-- ---- a command on it

module _ (Files Stored : ℕ → List ℕ → Type 0) (Kept : Type 0) (shape : Shape) where
  pub quickly_done : {T : Type 0} (r : Result T DirectoryFault) (asked : Asking) (was mid is : Told)
      (v : Levels) (m : NamedManifest) (old new said noted told : Option (List ℕ))
      → Becomes mid is → Admits Files Stored shape was mid v m → (Kept → Holds Kept was mid v m)
      → (IsTrue asked.strict → IsWhole m asked.beside)
      → (ReliesOn Kept asked.command
      → OnOk r (Prints asked.form asked.command v m asked.beside old new))
      → (HasNoNote asked.command m asked.beside → Keeps said noted)
      → (IsFalse asked.progress → Keeps noted told)
      → OnOk r (IsQuicklyLookedInto asked Files Stored Kept shape (moment was old) (moment is new)
      said told)
  quickly_done (Ok x) asked was mid is v m old new said noted told b a h all w q k = record {
    version = v;
    manifest = m;
    admits = admits_later Files Stored shape was mid is v m b a;
    holds = λ kept. holds_later Kept was mid is v m b (h kept);
    whole = all;
    printed = w;
    quiet = λ quiet none. Keeps-trans said noted told (q none) (k quiet);
  }
  quickly_done (Err e) asked was mid is v m old new said noted told b a h all w q k = search

  pub quickly_stopped : {T : Type 0} (Refused : Asked → ShelfFault → Type 0)
      (r : Result T DirectoryFault) (asked : Asking) (was mid is : Told) (v : Levels)
      (m : NamedManifest) (old new : Option (List ℕ))
      → Becomes mid is → Admits Files Stored shape was mid v m → (Kept → Holds Kept was mid v m)
      → IfErr r (λ e. IsPerformFault Kept asked.command v e mid is)
      → IfErr r (λ e. e ≢ Write → PrintsBefore asked.form asked.command Kept v old new)
      → IfErr r
      (λ e. IsUndone asked Files Stored Refused Kept shape e (moment was old) (moment is new))
  quickly_stopped Refused (Ok x) asked was mid is v m old new b a h f p = search
  quickly_stopped Refused (Err e) asked was mid is v m old new b a h f p = inr record {
    version = v;
    manifest = m;
    admits = admits_later Files Stored shape was mid is v m b a;
    holds = λ kept. holds_later Kept was mid is v m b (h kept);
    why = inr (read_counted_admitted Files Stored shape was mid is v m a Kept asked.command e f, p);
  }

  pub quickly_left_out : (Refused : Asked → ShelfFault → Type 0) (asked : Asking)
      (e : DirectoryFault) (was is : Told) (v : Levels) (m : NamedManifest) (old : Option (List ℕ))
      → Admits Files Stored shape was is v m → (Kept → Holds Kept was is v m)
      → IsTrue asked.strict × IsFirstLeftOut m asked.beside e
      → IsUndone asked Files Stored Refused Kept shape e (moment was old) (moment is old)
  quickly_left_out Refused asked e was is v m old a h l =
      inr record {
        version = v;
        manifest = m;
        admits = a;
        holds = h;
        why =
            inl (l.0, l.1, Keeps-refl old);
      }

  pub quickly_unopened : (Refused : Asked → ShelfFault → Type 0) (asked : Asking) (e : OpenFault)
      (was is : Told) (old : Option (List ℕ)) → IsOpenRefusal Files Refused e was is
      → IsUndone asked Files Stored Refused Kept shape (of_open e) (moment was old) (moment is old)
  quickly_unopened Refused asked e was is old h =
      inl record { cause = e; is = refl; why = h; left = Keeps-refl old }

  pub quickly_without_room : (Refused : Asked → ShelfFault → Type 0) (asked : Asking) (rest : ℕ)
      (h : HeldManifest) (was is : Told) (old : Option (List ℕ)) → IsRecovered h shape rest
      → Becomes (finding h.number h.bytes was) is
      → IsUndone asked Files Stored Refused Kept shape OutOfMemory (moment was old) (moment is old)
  quickly_without_room Refused asked rest h was is old recovered told =
      quickly_unopened Refused asked open_faults.OutOfMemory was is old record
      { held = h; shape = shape; rest = rest; recovered = recovered; told = inl told }

-- ---- the shape that was read

module _ (Files Stored : ℕ → List ℕ → Type 0) (Honest : Type 0) where
  pub quickly_from_shape : {T F : Type 0} (r : Result T F) (shape : Shape) (asked : Asking)
      (before after : Moment) (said told : Option (List ℕ))
      → OnOk r (IsQuicklyLookedInto asked Files Stored (Honest × KeepsTables Files shape) shape
      before after said told)
      → OnOk r (LooksQuickly asked Files Stored Honest before after said told)
  quickly_from_shape (Ok x) shape asked before after said told h = (shape, h)
  quickly_from_shape (Err e) shape asked before after said told h = search

  undone_from : (Refused : Asked → ShelfFault → Type 0) (shape : Shape) (asked : Asking)
      (e : DirectoryFault) (before after : Moment)
      → IsUndone asked Files Stored Refused (Honest × KeepsTables Files shape) shape e before after
      → FailsQuickly asked Files Stored Refused Honest e before after
  undone_from Refused shape asked e before after (inl u) = inl u
  undone_from Refused shape asked e before after (inr u) = inr (shape, u)

  pub quickly_refused_from : {T : Type 0} (Refused : Asked → ShelfFault → Type 0)
      (r : Result T DirectoryFault) (shape : Shape) (asked : Asking) (before after : Moment)
      → IfErr r (λ e. IsUndone asked Files Stored Refused (Honest × KeepsTables Files shape) shape e
      before after)
      → IfErr r (λ e. FailsQuickly asked Files Stored Refused Honest e before after)
  quickly_refused_from Refused (Ok x) shape asked before after h = search
  quickly_refused_from Refused (Err e) shape asked before after h =
      undone_from Refused shape asked e before after h

  -- ---- nothing but reads

  done_reads : (asked : Asking) (before after : Moment) (said told : Option (List ℕ))
      → LooksQuickly asked Files Stored Honest before after said told
      → OnlyReads before.told after.told
  done_reads asked before after said told (shape, l) =
      inr (
        l.admits.held.number,
        l.admits.held.bytes,
        inr
            (l.admits.admitted.listed, l.admits.admitted.told),
      )

  open_reads : (Refused : Asked → ShelfFault → Type 0) (e : OpenFault) (was is : Told)
      → IsOpenRefusal Files Refused e was is → OnlyReads was is
  open_reads Refused open_faults.OutOfMemory was is r = inr (r.held.number, r.held.bytes, r.told)
  open_reads Refused (open_faults.Shelf e) was is r = inr (r.held.number, r.held.bytes, inl r.told)
  open_reads Refused (open_faults.Recover e) was is r = recover_reads Refused e was is r
  open_reads Refused (open_faults.Check e) was is r = inr (r.held.number, r.held.bytes, inl r.told)
  open_reads Refused open_faults.NumbersSpent was is r =
      inr (r.held.number, r.held.bytes, inr (r.listed, r.told))

  undone_reads : (Refused : Asked → ShelfFault → Type 0) (asked : Asking) (e : DirectoryFault)
      (before after : Moment) → FailsQuickly asked Files Stored Refused Honest e before after
      → OnlyReads before.told after.told
  undone_reads Refused asked e before after (inl u) =
      open_reads Refused u.cause before.told after.told u.why
  undone_reads Refused asked e before after (inr (shape, u)) =
      inr (
        u.admits.held.number,
        u.admits.held.bytes,
        inr
            (u.admits.admitted.listed, u.admits.admitted.told),
      )

  pub quickly_reads : {T : Type 0} (Refused : Asked → ShelfFault → Type 0)
      (r : Result T DirectoryFault) (asked : Asking) (before after : Moment)
      (said told : Option (List ℕ))
      → OnOk r (LooksQuickly asked Files Stored Honest before after said told)
      → IfErr r (λ e. FailsQuickly asked Files Stored Refused Honest e before after)
      → OnlyReads before.told after.told
  quickly_reads Refused (Ok x) asked before after said told d f =
      done_reads asked before after said told d
  quickly_reads Refused (Err e) asked before after said told d f =
      undone_reads Refused asked e before after f

  -- the manifest is refused
  pub quickly_unread : (Refused : Asked → ShelfFault → Type 0) (asked : Asking) (e : RecoverFault)
      (was is : Told) (old : Option (List ℕ)) → IsRecoverRefusal Refused e was is
      → FailsQuickly asked Files Stored Refused Honest (Manifest e) (moment was old) (moment is old)
  quickly_unread Refused asked e was is old h =
      inl record { cause = open_faults.Recover e; is = refl; why = h; left = Keeps-refl old }

  -- ---- quiet after the status

  then_quickly : (asked : Asking) (before after : Moment) (said told last : Option (List ℕ))
      → LooksQuickly asked Files Stored Honest before after said told → Keeps told last
      → LooksQuickly asked Files Stored Honest before after said last
  then_quickly asked before after said told last (shape, l) kept = (
    shape,
    record {
      version = l.version;
      manifest = l.manifest;
      admits = l.admits;
      holds = l.holds;
      whole = l.whole;
      printed = l.printed;
      quiet = λ quiet none. Keeps-trans said told last (l.quiet quiet none) kept;
    },
  )

  pub quickly_on : {T F : Type 0} (r : Result T F) (status : ℕ) (asked : Asking)
      (before after : Moment) (said told last : Option (List ℕ)) → OnErr r (status ≡ 1)
      → OnOk r (LooksQuickly asked Files Stored Honest before after said told)
      → (status ≡ 0 → Keeps told last) → status ≡ 0
      → LooksQuickly asked Files Stored Honest before after said last
  quickly_on (Ok x) status asked before after said told last err done kept zero =
      then_quickly asked before after said told last done (kept zero)
  quickly_on (Err e) status asked before after said told last err done kept zero =
      absurd (omega (arith, err, zero))

-- ---- as after a judgment of every table

relies_kept : (Honest Kept : Type 0) (command : DirectoryCommand) → Kept → ReliesOn Kept command
relies_kept Honest Kept (Check workers) kept = tt
relies_kept Honest Kept ListFiles kept = tt
relies_kept Honest Kept (Get key output) kept = kept
relies_kept Honest Kept (Scan options) kept = kept

holds_of : (Kept Honest : Type 0) (was is : Told) (v : Levels) (m : NamedManifest) → Kept
    → Holds Kept was is v m → Holds Honest was is v m
holds_of Kept Honest was is v m kept h = record {
  held = h.held;
  limit = h.limit;
  next = h.next;
  found = record {
    shape = h.found.shape;
    listed = h.found.listed;
    loaded = record {
      recovered = h.found.loaded.recovered;
      of_shape = h.found.loaded.of_shape;
      numbers = h.found.loaded.numbers;
      recorded = h.found.loaded.recorded;
      settled = h.found.loaded.settled;
      judged = h.found.loaded.judged;
      sound = λ _. h.found.loaded.sound kept;
    };
    limit_is = h.found.limit_is;
    least = h.found.least;
    fits = h.found.fits;
    told = h.found.told;
  };
  numbered = h.numbered;
  logs = h.logs;
  previous = h.previous;
}

pub quick_is_whole : (asked : Asking) (Files Stored : ℕ → List ℕ → Type 0) (Honest : Type 0)
    (shape : Shape) (before after : Moment) (said told : Option (List ℕ))
    → IsQuicklyLookedInto asked Files Stored (Honest × KeepsTables Files shape) shape before after
    said told → Honest → KeepsTables Files shape
    → IsLookedIntoAsGiven asked Stored Honest before after said told
quick_is_whole asked Files Stored Honest shape before after said told l honest keeps = record {
  looked = record {
    version = l.version;
    manifest = l.manifest;
    holds = holds_of (Honest × KeepsTables Files shape) Honest before.told after.told l.version
        l.manifest (honest, keeps) (l.holds (honest, keeps));
    whole = l.whole;
    printed =
        λ _. l.printed
        (relies_kept Honest (Honest × KeepsTables Files shape) asked.command (honest, keeps));
    quiet = l.quiet;
  };
  given = l.admits.given;
}

-- ---- a line

module _ {C M : Type 0} (folders : Ghosts C M) (marks : mark.Ghosts M)
    (holds : Place → (name image : List ℕ) → Type 0) where
  pub quickly_at : {T F : Type 0} (r : Result T F) (line : DirectoryLine) (beside : Beside)
      (begun ended : FileShelf C M) (old new said told : Option (List ℕ))
      → IsTrue (is_quick line.command line.quick)
      → IsShelfAt folders line.path.now (LooksBeside beside) begun
      → OnOk r (LooksQuickly (asked_by line beside)
      (kept_at folders marks holds (told_by folders begun).place)
      (stored_at folders marks (told_by folders begun).place) (AreHonest folders.calls)
      (moment (told_by folders begun) old) (moment (told_by folders ended) new) said told)
      → OnlyReads (told_by folders begun) (told_by folders ended)
      → OnOk r (LooksAsItLies folders marks holds line old new said told)
  quickly_at (Ok x) line beside begun ended old new said told quick on done reads =
      inr (
        quick,
        record {
          beside = beside;
          begun = begun;
          on = on;
          ended = ended;
          done =
              done;
          reads = reads;
        },
      )
  quickly_at (Err e) line beside begun ended old new said told quick on done reads = search

  pub quickly_fails_at : {T : Type 0} (r : Result T DirectoryFault) (line : DirectoryLine)
      (beside : Beside) (begun ended : FileShelf C M) (old new : Option (List ℕ))
      → IsTrue (is_quick line.command line.quick)
      → IsShelfAt folders line.path.now (LooksBeside beside) begun
      → IfErr r
      (λ e. FailsQuickly (asked_by line beside)
      (kept_at folders marks holds (told_by folders begun).place)
      (stored_at folders marks (told_by folders begun).place) MayRefuse
      (AreHonest folders.calls) e (moment (told_by folders begun) old)
      (moment (told_by folders ended) new))
      → OnlyReads (told_by folders begun) (told_by folders ended)
      → IfErr r (λ e. FailsAsItLies folders marks holds line e old new)
  quickly_fails_at (Ok x) line beside begun ended old new quick on refused reads = search
  quickly_fails_at (Err e) line beside begun ended old new quick on refused reads =
      inr (
        quick,
        record {
          beside = beside;
          begun = begun;
          on = on;
          ended = ended;
          refused =
              refused;
          reads = reads;
        },
      )

  pub lies_from_whole : {T F : Type 0} (r : Result T F) (line : DirectoryLine)
      (old new said told : Option (List ℕ))
      → OnOk r (LooksAtGiven folders marks line old new said told)
      → OnOk r (LooksAsItLies folders marks holds line old new said told)
  lies_from_whole (Ok x) line old new said told h = inl h
  lies_from_whole (Err e) line old new said told h = search

  pub fails_from_whole : {T : Type 0} (r : Result T DirectoryFault) (line : DirectoryLine)
      (old new : Option (List ℕ)) → IfErr r (λ e. FailsToLook folders marks line e old new)
      → IfErr r (λ e. FailsAsItLies folders marks holds line e old new)
  fails_from_whole (Ok x) line old new h = search
  fails_from_whole (Err e) line old new h = inl h

  pub lies_quiet : (line : DirectoryLine) (old new said told last : Option (List ℕ))
      → LooksAsItLies folders marks holds line old new said told → Keeps told last
      → LooksAsItLies folders marks holds line old new said last
  lies_quiet line old new said told last (inl h) kept =
      inl record {
        looks = looks_quiet folders marks line old new said told last h.looks kept;
        given =
            h.given;
      }
  lies_quiet line old new said told last (inr (quick, h)) kept = inr (
    quick,
    record {
      beside = h.beside;
      begun = h.begun;
      on = h.on;
      ended = h.ended;
      done = then_quickly (kept_at folders marks holds (told_by folders h.begun).place)
          (stored_at folders marks (told_by folders h.begun).place) (AreHonest folders.calls)
          (asked_by line h.beside) (moment (told_by folders h.begun) old)
          (moment (told_by folders h.ended) new) said told last h.done kept;
      reads = h.reads;
    },
  )

  abbrev pub given_of_quick : (line : DirectoryLine) (old new said told : Option (List ℕ))
      (q : LooksQuicklyAt folders marks holds line old new said told) → AreHonest folders.calls
      → KeepsTables (kept_at folders marks holds (told_by folders q.begun).place) q.done.0
      → LooksAtGiven folders marks line old new said told
  given_of_quick line old new said told q honest keeps =
      let whole =
      quick_is_whole (asked_by line q.beside)
      (kept_at folders marks holds (told_by folders q.begun).place)
      (stored_at folders marks (told_by folders q.begun).place) (AreHonest folders.calls)
      q.done.0 (moment (told_by folders q.begun) old) (moment (told_by folders q.ended) new)
      said told q.done.1 honest keeps in
      record {
        looks =
            record {
              beside = q.beside;
              begun = q.begun;
              on = q.on;
              ended = q.ended;
              done =
                  whole.looked;
              reads = q.reads;
            };
        given = whole.given;
      }
