-- What a run says, by what reading the manifest and showing its shape say.
use Rattle.std.proofs.Common.{◌≡◌, ◌⊎◌, ℕ, Bool, List, ◌∷◌, ◌++◌, Option, None, Some, IfErr}
use Rattle.std.proofs.Common.{OnErr, OnOk, arith, inl, inr, refl, sym, subst}
use Rattle.std.specs.Prelude.{Result, Ok, Err, IsTrue}
use Rattle.std.specs.Io.KnownBytes.{Appends, Keeps}
use Rattle.std.proofs.KnownBytes.{Keeps-refl, Keeps-trans}
use Rattle.lsm_folder.specs.declared.folder_calls.FolderCalls.{Ghosts}
use Rattle.lsm_manifest.specs.declared.shape.Shape.{Shape}
use Rattle.lsm_codec.specs.Lists.{Has}
use Rattle.lsm_codec.proofs.CallerLemmas.{has_right}
use Rattle.lsm_shelf.specs.Asked.{Asked}
use Rattle.lsm_shelf.specs.Refusals.{MayRefuse}
use Rattle.lsm_shelf.specs.Told.{Told}
use Rattle.lsm_shelf.specs.declared.shelf_fault.ShelfFault.{ShelfFault}
use Rattle.lsm_storage.specs.declared.file.file_shelf.FileShelf.{FileShelf}
use Rattle.lsm_journal.specs.Recovering.{IsRecoverRefusal}
use Rattle.lsm_journal.specs.declared.recover_fault.RecoverFault.{RecoverFault}
use Rattle.lsm_journal.specs.declared.recover_fault.RecoverFault.TheVariants as recover_faults
use Rattle.lsm_text.specs.Printing.{Begins}
use Rattle.lsm_text.specs.declared.form.Form.{Form}
use Rattle.lsm_directory.specs.Folders.{IsShelfAt, told_by}
use Rattle.lsm_directory.specs.Logs.{IsFirstUnread, NoneUnread}
use Rattle.lsm_directory.specs.Rest.{IsLeftOut, LeavesNothingOut}
use Rattle.lsm_directory.specs.declared.faults.directory_fault.DirectoryFault.{DirectoryFault}
use Rattle.lsm_directory.specs.declared.faults.directory_fault.DirectoryFault.TheVariants as why
use Rattle.lsm_directory.specs.declared.folder.folder_file.FolderFile.{FolderFile}
use Rattle.lsm_cmd_levels.specs.Dues.{IsDueNext}
use Rattle.lsm_cmd_levels.specs.declared.due.Due.{Due}
use Rattle.lsm_cmd_levels.specs.declared.totals.Totals.{Totals}
use Rattle.lsm_cmd_levels.specs.Listing.{TellsFiles}
use Rattle.lsm_cmd_levels.specs.Totals.{AreTotals}
use Rattle.lsm_cmd_levels.specs.Layout.{FailsToLayOut, IsGone, IsLaidOut, IsLayoutFault}
use Rattle.lsm_cmd_levels.specs.Layout.{IsNotNamed, IsShown, IsUnshown, LaysOutAt, Names}
use Rattle.lsm_cmd_levels.specs.Layout.{ReadsManifest, Shows, text_of}
use Rattle.lsm_requests.specs.declared.levels_line.LevelsLine.{LevelsLine}
use Rattle.lsm_requests.specs.declared.levels_output.LevelsOutput.{LevelsOutput}

-- ---- a shelf

module _ (form : Form) (output : LevelsOutput) where
  pub shown_as : (s : Shape) (rest : ℕ) (files : List FolderFile) (due : Option Due) (totals : Totals) (text : List ℕ) → IsDueNext s due → AreTotals s files totals
      → text ≡ text_of form output s rest due totals → IsShown form output s rest files text
  shown_as s rest files due totals text next sums is = record { due = due; totals = totals; next = next; sums = sums; is = is }

  pub shows_text : (s : Shape) (rest : ℕ) (files : List FolderFile) (text : List ℕ) (old new : Option (List ℕ)) → IsShown form output s rest files text → Appends old new text
      → Shows form output s rest files old new
  shows_text s rest files text old new is printed = (text, is, printed)

  pub stops_text : (s : Shape) (rest : ℕ) (files : List FolderFile) (text : List ℕ) (old new : Option (List ℕ)) → IsShown form output s rest files text → Begins old new text
      → IsUnshown form output s rest files why.Write old new
  stops_text s rest files text old new is begun = (text, is, begun)

  pub laid_out : {T : Type 0} (r : Result T DirectoryFault) (strict : Bool) (others : List FolderFile) (was is : Told) (s : Shape) (rest : ℕ) (old new said_old said_new : Option (List ℕ))
      → Names was is s rest → OnOk r (IsTrue strict → LeavesNothingOut rest s.log s.prev_log others) → OnOk r (Shows form output s rest others old new) → (rest ≡ 0 → NoneUnread s.log s.prev_log others → Keeps said_old said_new)
      → OnOk r (IsLaidOut form output strict others was is old new said_old said_new)
  laid_out (Ok x) strict others was is s rest old new said_old said_new named whole shown quiet = record { shape = s; rest = rest; named = named; whole = whole; shown = shown; quiet = quiet }
  laid_out (Err e) strict others was is s rest old new said_old said_new named whole shown quiet = tt

  pub not_shown : {T : Type 0} (r : Result T DirectoryFault) (Refused : Asked → ShelfFault → Type 0) (strict : Bool) (others : List FolderFile) (was is : Told) (s : Shape) (rest : ℕ) (old new : Option (List ℕ))
      → Names was is s rest → IfErr r
      (λ e. (IsTrue strict × IsLeftOut rest s.log s.prev_log others e × Keeps old new)
      ⊎ IsUnshown form output s rest others e old new)
      → IfErr r (λ e. IsLayoutFault Refused form output strict others e was is old new)
  not_shown (Ok x) Refused strict others was is s rest old new named fault = tt
  not_shown (Err e) Refused strict others was is s rest old new named fault = inr (s, rest, named, fault)

  -- a refusal of what is left out, before anything is written
  pub not_left_out : (strict : Bool) (others : List FolderFile) (s : Shape) (rest : ℕ) (e : DirectoryFault) (old : Option (List ℕ)) → IsTrue strict × IsLeftOut rest s.log s.prev_log others e
      → (IsTrue strict × IsLeftOut rest s.log s.prev_log others e × Keeps old old) ⊎ IsUnshown form output s rest others e old old
  not_left_out strict others s rest e old l = inl (l.0, l.1, Keeps-refl old)

  pub not_named : (e : DirectoryFault) (Refused : Asked → ShelfFault → Type 0) (strict : Bool) (others : List FolderFile) (was is : Told) (old : Option (List ℕ)) → IsNotNamed Refused e was is
      → IsLayoutFault Refused form output strict others e was is old old
  not_named e Refused strict others was is old fault = inl (fault, Keeps-refl old)

  none_of : {A B C : Type 0} → (A × ⊥ × B) ⊎ ⊥ → C
  none_of (inl x) = absurd x.1
  none_of (inr x) = absurd x

  -- where a fault says that the manifest is gone, nothing was shown
  pub not_gone : {T : Type 0} (r : Result T DirectoryFault) (strict : Bool)
      (others : List FolderFile) (s : Shape) (rest : ℕ)
      (old new said_old said_new : Option (List ℕ))
      → IfErr r
      (λ e. (IsTrue strict × IsLeftOut rest s.log s.prev_log others e × Keeps old new)
      ⊎ IsUnshown form output s rest others e old new)
      → IfErr r (λ e. IsGone e → Keeps old new × Keeps said_old said_new)
  not_gone (Ok x) strict others s rest old new said_old said_new fault = tt
  not_gone (Err e) strict others s rest old new said_old said_new fault =
      λ gone. none_of
      (subst (λ (x : DirectoryFault).
      (IsTrue strict × IsLeftOut rest s.log s.prev_log others x × Keeps old new)
      ⊎ IsUnshown form output s rest others x old new) gone fault)

-- nothing is written
pub all_kept : (old said : Option (List ℕ)) → Keeps old old × Keeps said said
all_kept old said = (Keeps-refl old, Keeps-refl said)

pub named_reads : (was is : Told) (s : Shape) (rest : ℕ) → Names was is s rest → ReadsManifest was is
named_reads was is s rest n = inr (n.held.number, n.held.bytes, n.told)

recover_reads : (Refused : Asked → ShelfFault → Type 0) (e : RecoverFault) (was is : Told) → IsRecoverRefusal Refused e was is → ReadsManifest was is
recover_reads Refused (recover_faults.Shelf e) was is r = inl r.0
recover_reads Refused (recover_faults.Log e) was is r = let gave = r.1 in inr (gave.0, r.0, gave.1)
recover_reads Refused (recover_faults.Edit e) was is r = let gave = r.1 in inr (gave.0, r.0, gave.1)
recover_reads Refused (recover_faults.Replay e) was is r = let gave = r.1 in inr (gave.0, r.0, gave.1)

pub fault_reads : (Refused : Asked → ShelfFault → Type 0) (e : DirectoryFault) (was is : Told) → IsNotNamed Refused e was is → ReadsManifest was is
fault_reads Refused why.OutOfMemory was is h = absurd h
fault_reads Refused why.Write was is h = absurd h
fault_reads Refused (why.Shelf e) was is h = absurd h
fault_reads Refused (why.Manifest e) was is h = recover_reads Refused e was is h
fault_reads Refused (why.Tables e) was is h = absurd h
fault_reads Refused (why.Read e) was is h = absurd h
fault_reads Refused why.NumbersSpent was is h = absurd h
fault_reads Refused why.Locked was is h = absurd h
fault_reads Refused (why.UnflushedLog number) was is h = absurd h
fault_reads Refused (why.TornManifest rest) was is h = absurd h
fault_reads Refused (why.LaterManifest later) was is h = absurd h
fault_reads Refused why.RocksDbFiles was is h = absurd h
fault_reads Refused why.Absent was is h = absurd h

-- a log was found that is to be noted
pub noted : (log prev : ℕ) (files : List FolderFile) (n : ℕ) → IsFirstUnread log prev files n → NoneUnread log prev files → ⊥
noted log prev files n first none =
    none first.file (subst (λ (fs : List FolderFile). Has fs first.file) (sym first.parts) (has_right first.before (first.file ∷ first.after) first.file (inl refl))) first.unread

-- ---- two looks

pub appends_kept : (old mid new : Option (List ℕ)) (text : List ℕ) → Keeps old mid
    → Appends mid new text → Appends old new text
appends_kept None mid new text kept grown = tt
appends_kept (Some xs) None new text kept grown = absurd kept
appends_kept (Some xs) (Some ys) None text kept grown = absurd grown
appends_kept (Some xs) (Some ys) (Some zs) text kept grown = subst
    (λ (l : List ℕ). zs ≡ l ++ text) kept grown

pub begins_kept : (old mid new : Option (List ℕ)) (text : List ℕ) → Keeps old mid
    → Begins mid new text → Begins old new text
begins_kept None mid new text kept (lost, (written, grown, is)) = (lost, (written, tt, is))
begins_kept (Some xs) None new text kept begun = absurd kept
begins_kept (Some xs) (Some ys) new text kept begun = subst
    (λ (l : List ℕ). Begins (Some l) new text) kept begun

unshown_behind : (form : Form) (output : LevelsOutput) (s : Shape) (rest : ℕ)
    (files : List FolderFile) (e : DirectoryFault) (old mid new : Option (List ℕ)) → Keeps old mid
    → IsUnshown form output s rest files e mid new → IsUnshown form output s rest files e old new
unshown_behind form output s rest files why.OutOfMemory old mid new kept h =
    Keeps-trans old mid new kept h
unshown_behind form output s rest files why.Write old mid new kept h =
    (h.0, h.1, begins_kept old mid new h.0 kept h.2)
unshown_behind form output s rest files (why.Manifest e) old mid new kept h = absurd h
unshown_behind form output s rest files (why.Shelf e) old mid new kept h = absurd h
unshown_behind form output s rest files (why.Tables e) old mid new kept h = absurd h
unshown_behind form output s rest files (why.Read e) old mid new kept h = absurd h
unshown_behind form output s rest files why.NumbersSpent old mid new kept h = absurd h
unshown_behind form output s rest files why.Locked old mid new kept h = absurd h
unshown_behind form output s rest files (why.UnflushedLog number) old mid new kept h = absurd h
unshown_behind form output s rest files (why.TornManifest torn) old mid new kept h = absurd h
unshown_behind form output s rest files (why.LaterManifest later) old mid new kept h = absurd h
unshown_behind form output s rest files why.RocksDbFiles old mid new kept h = absurd h
unshown_behind form output s rest files why.Absent old mid new kept h = absurd h

says_behind : (form : Form) (output : LevelsOutput) (Refused : Asked → ShelfFault → Type 0)
    (strict : Bool) (files : List FolderFile) (e : DirectoryFault) (was is : Told)
    (old mid new : Option (List ℕ))
    → Keeps old mid → IsLayoutFault Refused form output strict files e was is mid new
    → IsLayoutFault Refused form output strict files e was is old new
says_behind form output Refused strict files e was is old mid new kept (inl h) = inl
    (h.0, Keeps-trans old mid new kept h.1)
says_behind form output Refused strict files e was is old mid new kept
    (inr (s, rest, named, inl h)) = inr
    (s, rest, named, inl (h.0, h.1, Keeps-trans old mid new kept h.2))
says_behind form output Refused strict files e was is old mid new kept
    (inr (s, rest, named, inr h)) = inr
    (s, rest, named, inr (unshown_behind form output s rest files e old mid new kept h))

-- ---- a folder

module _ {C M : Type 0} (folders : Ghosts C M) where
  pub lays_out : {T : Type 0} (r : Result T DirectoryFault) (line : LevelsLine) (others : List FolderFile) (begun ended : FileShelf C M) (old new said_old said_new : Option (List ℕ))
      → IsShelfAt folders line.path.now (TellsFiles others) begun
      → OnOk r (IsLaidOut line.form line.output line.strict others (told_by folders begun) (told_by folders ended) old new said_old said_new)
      → OnOk r (LaysOutAt folders line old new said_old said_new)
  lays_out (Ok x) line others begun ended old new said_old said_new on done = record { files = others; begun = begun; on = on; ended = ended; done = done }
  lays_out (Err e) line others begun ended old new said_old said_new on done = tt

  pub fails : {T : Type 0} (r : Result T DirectoryFault) (line : LevelsLine) (others : List FolderFile) (begun ended : FileShelf C M) (old new : Option (List ℕ))
      → IsShelfAt folders line.path.now (TellsFiles others) begun
      → IfErr r (λ e. IsLayoutFault MayRefuse line.form line.output line.strict others e (told_by folders begun) (told_by folders ended) old new)
      → ReadsManifest (told_by folders begun) (told_by folders ended) → IfErr r (λ e. FailsToLayOut folders line e old new)
  fails (Ok x) line others begun ended old new on says reads = tt
  fails (Err e) line others begun ended old new on says reads = inr record { files = others; begun = begun; on = on; ended = ended; says = says; reads = reads }

  -- what was done behind a look that wrote nothing
  pub done_behind : {T : Type 0} (r : Result T DirectoryFault) (line : LevelsLine)
      (old mid new said told last : Option (List ℕ)) → Keeps old mid × Keeps said told
      → OnOk r (LaysOutAt folders line mid new told last) → OnOk r
      (LaysOutAt folders line old new said last)
  done_behind (Ok x) line old mid new said told last kept done = record {
    files = done.files;
    begun = done.begun;
    on = done.on;
    ended = done.ended;
    done = record {
      shape = done.done.shape;
      rest = done.done.rest;
      named = done.done.named;
      whole = done.done.whole;
      shown = (
        done.done.shown.0,
        done.done.shown.1,
        appends_kept old mid new _ kept.0 done.done.shown.2,
      );
      quiet = λ whole none. Keeps-trans said told last kept.1 (done.done.quiet whole none);
    };
  }
  done_behind (Err e) line old mid new said told last kept done = tt

  refused_at : (e : DirectoryFault) (line : LevelsLine) (old mid new : Option (List ℕ))
      → Keeps old mid → FailsToLayOut folders line e mid new
      → FailsToLayOut folders line e old new
  refused_at e line old mid new kept (inl f) = inl (f.0, Keeps-trans old mid new kept f.1)
  refused_at e line old mid new kept (inr f) = inr record {
    files = f.files;
    begun = f.begun;
    on = f.on;
    ended = f.ended;
    says = says_behind line.form line.output MayRefuse line.strict f.files e
        (told_by folders f.begun) (told_by folders f.ended) old mid new kept f.says;
    reads = f.reads;
  }

  -- and what was refused behind it
  pub refused_behind : {T : Type 0} (r : Result T DirectoryFault) (line : LevelsLine)
      (old mid new said told : Option (List ℕ)) → Keeps old mid × Keeps said told
      → IfErr r (λ e. FailsToLayOut folders line e mid new) → IfErr r
      (λ e. FailsToLayOut folders line e old new)
  refused_behind (Ok x) line old mid new said told kept refused = tt
  refused_behind (Err e) line old mid new said told kept refused =
      refused_at e line old mid new kept.0 refused

  pub laid_on : {T F : Type 0} (r : Result T F) (status : ℕ) (line : LevelsLine) (old new said told last : Option (List ℕ)) → OnErr r (status ≡ 1)
      → OnOk r (LaysOutAt folders line old new said told) → (status ≡ 0 → Keeps told last) → status ≡ 0 → LaysOutAt folders line old new said last
  laid_on (Ok x) status line old new said told last err done kept zero = record {
    files = done.files;
    begun = done.begun;
    on = done.on;
    ended = done.ended;
    done = record {
      shape = done.done.shape;
      rest = done.done.rest;
      named = done.done.named;
      whole = done.done.whole;
      shown = done.done.shown;
      quiet = λ whole none. Keeps-trans said told last (done.done.quiet whole none) (kept zero);
    };
  }
  laid_on (Err e) status line old new said told last err done kept zero = absurd (omega (arith, err, zero))
