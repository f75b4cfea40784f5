-- What a run that only reads says, by what its command says of the shelf that was opened.
use Rattle.std.proofs.Common.{◌≡◌, ◌∙◌, ℕ, List, Option, IfErr, OnErr, OnOk, arith, inr}
use Rattle.std.proofs.Common.{ap, subst, sym}
use Rattle.std.specs.Prelude.{Result, Ok, Err}
use Rattle.std.specs.Io.KnownBytes.{Keeps}
use Rattle.std.proofs.KnownBytes.{Keeps-trans}
use Rattle.lsm_folder.specs.Calls.{AreHonest}
use Rattle.lsm_folder.specs.declared.folder_calls.FolderCalls.{Ghosts}
use Rattle.lsm_folder.specs.declared.mark.Mark as mark
use Rattle.lsm_shelf.specs.Refusals.{MayRefuse}
use Rattle.lsm_shelf.specs.Told.{fresh}
use Rattle.lsm_storage.specs.FileShelf.{folder_of}
use Rattle.lsm_storage.specs.declared.file.file_shelf.FileShelf.{FileShelf}
use Rattle.lsm_requests.specs.declared.directory_line.DirectoryLine.{DirectoryLine}
use Rattle.lsm_cmd_read.specs.Answers.{Asking, IsLookedInto, IsLookedIntoAsGiven, IsNotLookedInto}
use Rattle.lsm_cmd_read.specs.Answers.{Moment, asked_by, moment}
use Rattle.lsm_cmd_read.specs.Directory.{OnlyReads}
use Rattle.lsm_directory.specs.Folders.{IsFolderAt, IsShelfAt, stored_at, told_by}
use Rattle.lsm_directory.specs.Beside.{LooksBeside}
use Rattle.lsm_cmd_read.specs.Looked.{FailsToLook, LooksAt, LooksAtGiven}
use Rattle.lsm_directory.specs.declared.faults.directory_fault.DirectoryFault.{DirectoryFault}
use Rattle.lsm_directory.specs.declared.folder.beside.Beside.{Beside}

module _ (Honest : Type 0) where
  abbrev pub then_quiet : (asked : Asking) (before after : Moment)
      (said told last : Option (List ℕ))
      → IsLookedInto asked Honest before after said told → Keeps told last
      → IsLookedInto asked Honest before after said last
  then_quiet asked before after said told last done kept = record {
    version = done.version;
    manifest = done.manifest;
    holds = done.holds;
    whole = done.whole;
    printed = done.printed;
    quiet = λ quiet none. Keeps-trans said told last (done.quiet quiet none) kept;
  }

  pub done_on : {T F : Type 0} (r : Result T F) (status : ℕ) (asked : Asking) (Stored : ℕ → List ℕ
      → Type 0) (before after : Moment) (said told last : Option (List ℕ))
      → OnErr r (status ≡ 1)
      → OnOk r (IsLookedIntoAsGiven asked Stored Honest before after said told)
      → (status ≡ 0 → Keeps told last) → status ≡ 0
      → IsLookedIntoAsGiven asked Stored Honest before after said last
  done_on (Ok x) status asked Stored before after said told last err done kept zero =
      record {
        looked = then_quiet asked before after said told last done.looked (kept zero);
        given = done.given;
      }
  done_on (Err e) status asked Stored before after said told last err done kept zero =
      absurd (omega (arith, err, zero))

module _ {C M : Type 0} (folders : Ghosts C M) where
  -- a shelf on a folder that was opened
  pub shelf_on : (path : List ℕ) (beside : Beside) (folder : C) (shelf : FileShelf C M)
      → IsFolderAt folders path (LooksBeside beside) folder → folder_of shelf ≡ folder
      → told_by folders shelf ≡ fresh (folders.place folder)
      → IsShelfAt folders path (LooksBeside beside) shelf
  shelf_on path beside folder shelf on is new = record {
    on = subst (λ (f : C). IsFolderAt folders path (LooksBeside beside) f) (sym is) on;
    new = new ∙ ap (λ (f : C). fresh (folders.place f)) (sym is);
  }

module _ {C M : Type 0} (folders : Ghosts C M) (marks : mark.Ghosts M) where
  pub looks_at : {T F : Type 0} (r : Result T F) (line : DirectoryLine) (beside : Beside)
      (begun ended : FileShelf C M) (old new said told : Option (List ℕ))
      → IsShelfAt folders line.path.now (LooksBeside beside) begun
      → OnOk r (IsLookedIntoAsGiven (asked_by line beside)
      (stored_at folders marks (told_by folders begun).place) (AreHonest folders.calls)
      (moment (told_by folders begun) old) (moment (told_by folders ended) new) said told)
      → OnlyReads (told_by folders begun) (told_by folders ended)
      → OnOk r (LooksAtGiven folders marks line old new said told)
  looks_at (Ok x) line beside begun ended old new said told on done reads =
      record {
        looks =
            record {
              beside = beside;
              begun = begun;
              on = on;
              ended = ended;
              done =
                  done.looked;
              reads = reads;
            };
        given = done.given;
      }
  looks_at (Err e) line beside begun ended old new said told on done reads = tt

  abbrev pub looks_quiet : (line : DirectoryLine) (old new said told last : Option (List ℕ))
      → LooksAt folders line old new said told → Keeps told last
      → LooksAt folders line old new said last
  looks_quiet line old new said told last looked kept = record {
    beside = looked.beside;
    begun = looked.begun;
    on = looked.on;
    ended = looked.ended;
    done = then_quiet (AreHonest folders.calls) (asked_by line looked.beside)
        (moment (told_by folders looked.begun) old) (moment (told_by folders looked.ended) new) said
        told last looked.done kept;
    reads = looked.reads;
  }

  pub given_on : {T F : Type 0} (r : Result T F) (status : ℕ) (line : DirectoryLine)
      (old new said told last : Option (List ℕ)) → OnErr r (status ≡ 1)
      → OnOk r (LooksAtGiven folders marks line old new said told) → (status ≡ 0 → Keeps told last)
      → status ≡ 0 → LooksAtGiven folders marks line old new said last
  given_on (Ok x) status line old new said told last err looked kept zero =
      record {
        looks = looks_quiet line old new said told last looked.looks (kept zero);
        given =
            looked.given;
      }
  given_on (Err e) status line old new said told last err looked kept zero =
      absurd (omega (arith, err, zero))

  pub looked_on : {T F : Type 0} (r : Result T F) (status : ℕ) (line : DirectoryLine)
      (old new said told last : Option (List ℕ)) → OnErr r (status ≡ 1)
      → OnOk r (LooksAtGiven folders marks line old new said told) → (status ≡ 0 → Keeps told last)
      → status ≡ 0 → LooksAt folders line old new said last
  looked_on r status line old new said told last err looked kept zero =
      (given_on r status line old new said told last err looked kept zero).looks

module _ {C M : Type 0} (folders : Ghosts C M) (marks : mark.Ghosts M) where
  pub fails_at : {T : Type 0} (r : Result T DirectoryFault) (line : DirectoryLine) (beside : Beside)
      (begun ended : FileShelf C M) (old new : Option (List ℕ))
      → IsShelfAt folders line.path.now (LooksBeside beside) begun
      → IfErr r
      (λ e. IsNotLookedInto (asked_by line beside)
      (stored_at folders marks (told_by folders begun).place) MayRefuse
      (AreHonest folders.calls) e (moment (told_by folders begun) old)
      (moment (told_by folders ended) new))
      → OnlyReads (told_by folders begun) (told_by folders ended)
      → IfErr r (λ e. FailsToLook folders marks line e old new)
  fails_at (Ok x) line beside begun ended old new on refused reads = tt
  fails_at (Err e) line beside begun ended old new on refused reads =
      inr record {
        beside = beside;
        begun = begun;
        on = on;
        ended = ended;
        refused =
            refused;
        reads = reads;
      }
