-- What a command comes to in a folder that is seen with its logs, or with its tables plain, by what
-- its parts come to.
use Rattle.std.proofs.Common.{◌≡◌, ◌⊎◌, ◌∙◌, ℕ, List, Option, IfErr, OnErr, OnOk, arith, inl, inr}
use Rattle.std.proofs.Common.{refl, sym, subst, ap}
use Rattle.std.specs.Prelude.{Bool, true, false, Result, Ok, Err, MatchBool}
use Rattle.std.specs.Io.KnownBytes.{Keeps}
use Rattle.std.proofs.KnownBytes.{Keeps-refl}
use Rattle.lsm_folder.specs.Calls.{AreHonest}
use Rattle.lsm_folder.specs.declared.folder_calls.FolderCalls.{Ghosts}
use Rattle.lsm_folder.specs.declared.mark.Mark as mark
use Rattle.lsm_shelf.specs.Asked.{Asked}
use Rattle.lsm_shelf.specs.Place.{Place}
use Rattle.lsm_shelf.specs.Refusals.{MayRefuse}
use Rattle.lsm_shelf.specs.Told.{Becomes, Told}
use Rattle.lsm_shelf.specs.declared.shelf_fault.ShelfFault.{ShelfFault}
use Rattle.lsm_storage.specs.declared.file.file_shelf.FileShelf.{FileShelf}
use Rattle.lsm_mirror.specs.Shown.{Shown, shown_of, shown_told}
use Rattle.lsm_preview.specs.Tables.{OnlyLooks}
use Rattle.lsm_opening.specs.Tidying.{OnlyReads as CallsOnlyRead}
use Rattle.lsm_requests.specs.declared.directory_line.DirectoryLine.{DirectoryLine}
use Rattle.lsm_directory.specs.Folders.{stored_at, told_by}
use Rattle.lsm_directory.specs.declared.folder.beside.Beside.{Beside}
use Rattle.lsm_directory.specs.declared.faults.directory_fault.DirectoryFault.{DirectoryFault}
use Rattle.lsm_directory.specs.declared.faults.directory_fault.DirectoryFault.TheVariants.{
  OutOfMemory,
}
use Rattle.lsm_cmd_read.specs.Answers.{Asking, IsLookedIntoAsGiven, IsNotLookedInto, Moment}
use Rattle.lsm_cmd_read.specs.Answers.{asked_by, moment}
use Rattle.lsm_cmd_read.specs.Directory.{OnlyReads}
use Rattle.lsm_cmd_read.specs.Looked.{FailsAsAsked, FailsAsItLies, LooksAsAsked, LooksAsItLies}
use Rattle.lsm_cmd_read.specs.Seen.{FailsToSee, IsMirrorOf, IsNotSeenInto}
use Rattle.lsm_cmd_read.specs.Seen.{IsOpenToSee, IsSeen, IsSeenInto, IsUnseen, SeesAt, sees_more}
use Rattle.lsm_cmd_read.specs.Seen.{shown_at, sight_of}
use Rattle.lsm_cmd_read.specs.declared.look_fault.LookFault.{LookFault}
use Rattle.lsm_cmd_read.specs.declared.look_fault.LookFault.TheVariants.{Directory}
use Rattle.lsm_cmd_read.proofs.LookedLaws.{then_quiet}
use Rattle.lsm_cmd_read.proofs.QuickLaws.{lies_quiet}

-- ---- a shelf that was only read

looks_of : (was is : Told) → Becomes was is → OnlyLooks was is
looks_of was is b = record {
  place = b.place;
  puts = b.puts;
  gone = b.gone;
  starts = b.starts;
  written = b.written;
  forks = b.forks;
  made = b.made;
}

reads_look : (was is : Told) → OnlyReads was is → OnlyLooks was is
reads_look was is (inl b) = looks_of was is b
reads_look was is (inr (number, bytes, inl b)) = record {
  place = b.place;
  puts = b.puts;
  gone = b.gone;
  starts = b.starts;
  written = b.written;
  forks = b.forks;
  made = b.made;
}
reads_look was is (inr (number, bytes, inr (listed, b))) = record {
  place = b.place;
  puts = b.puts;
  gone = b.gone;
  starts = b.starts;
  written = b.written;
  forks = b.forks;
  made = b.made;
}

pub looks_none : (t : Told) → OnlyLooks t t
looks_none t = record {
  place = refl;
  puts = refl;
  gone = refl;
  starts = refl;
  written = refl;
  forks = refl;
  made = refl;
}

pub looks_then : (was mid is : Told) → OnlyLooks was mid → OnlyLooks mid is → OnlyLooks was is
looks_then was mid is a b = record {
  place = b.place ∙ a.place;
  puts = b.puts ∙ a.puts;
  gone = b.gone ∙ a.gone;
  starts = b.starts ∙ a.starts;
  written = b.written ∙ a.written;
  forks = b.forks ∙ a.forks;
  made = b.made ∙ a.made;
}

-- what only read a mirror only read the shelf below
pub looks_below : (shown : Shown) (below after begun ended : Told) → begun ≡ shown_told shown below
    → IsMirrorOf shown ended after → OnlyReads begun ended → OnlyLooks below after
looks_below shown below after begun ended is mirrors reads =
    let o : OnlyLooks (shown_told shown below)
    (record (shown_told shown after) { faults = ended.faults; misses = ended.misses }) =
    subst (OnlyLooks (shown_told shown below)) mirrors
    (subst (λ (t : Told). OnlyLooks t ended) is (reads_look begun ended reads)) in
    record {
      place = o.place;
      puts = o.puts;
      gone = o.gone;
      starts = o.starts;
      written = o.written;
      forks = o.forks;
      made = o.made;
    }

-- ---- what is shown of a shelf

-- A mirror was begun, and the command was done of it.
module _ (asked : Asking) (Stored : Place → ℕ → List ℕ → Type 0)
    (Refused : Place → Asked → ShelfFault → Type 0) (Honest : Type 0) (shown : Shown)
    (below after begun ended : Told) (p : Place) (is : begun ≡ shown_told shown below)
    (at : below.place ≡ p) (mirrors : IsMirrorOf shown ended after) where
  placed : begun.place ≡ p
  placed = ap (λ (t : Told). t.place) is ∙ at

  done_there : (old new said told : Option (List ℕ))
      → IsLookedIntoAsGiven asked (Stored begun.place) Honest (moment begun old) (moment ended new)
      said told
      → IsSeenInto asked (Stored p) Honest shown (moment below old) (moment after new) said told
  done_there old new said told done = record {
    told = ended;
    mirrors = mirrors;
    done = subst
        (λ (t : Told). IsLookedIntoAsGiven asked (Stored p) Honest (moment t old) (moment ended new)
        said told) is
        (subst
        (λ (q : Place). IsLookedIntoAsGiven asked (Stored q) Honest (moment begun old)
        (moment ended new) said told) placed done);
  }

  pub shown_done : {T F : Type 0} (r : Result T F) (old new said told : Option (List ℕ))
      → OnOk r (IsLookedIntoAsGiven asked (Stored begun.place) Honest (moment begun old)
      (moment ended new) said told)
      → OnOk r (IsSeenInto asked (Stored p) Honest shown (moment below old) (moment after new)
      said told)
  shown_done (Ok x) old new said told done = done_there old new said told done
  shown_done (Err e) old new said told done = tt

  refused_there : (e : DirectoryFault) (old new : Option (List ℕ))
      → IsNotLookedInto asked (Stored begun.place) (Refused begun.place) Honest e (moment begun old)
      (moment ended new)
      → IsNotSeenInto asked (Stored p) (Refused p) Honest shown e (moment below old)
      (moment after new)
  refused_there e old new refused = record {
    told = ended;
    mirrors = mirrors;
    refused = subst
        (λ (t : Told). IsNotLookedInto asked (Stored p) (Refused p) Honest e (moment t old)
        (moment ended new)) is
        (subst
        (λ (q : Place). IsNotLookedInto asked (Stored q) (Refused q) Honest e (moment begun old)
        (moment ended new)) placed refused);
  }

  pub shown_refused : {T : Type 0} (r : Result T DirectoryFault) (old new : Option (List ℕ))
      → IfErr r (λ e. IsNotLookedInto asked (Stored begun.place) (Refused begun.place) Honest e
      (moment begun old) (moment ended new))
      → IfErr r (λ e. IsNotSeenInto asked (Stored p) (Refused p) Honest shown e (moment below old)
      (moment after new))
  shown_refused (Ok x) old new refused = tt
  shown_refused (Err e) old new refused = refused_there e old new refused

-- memory ran out before it was begun
pub shown_without_room : (asked : Asking) (Stored : ℕ → List ℕ → Type 0)
    (Refused : Asked → ShelfFault → Type 0) (Honest : Type 0) (shown : Shown) (below : Told)
    (old : Option (List ℕ))
    → IsNotSeenInto asked Stored Refused Honest shown OutOfMemory (moment below old)
    (moment below old)
shown_without_room asked Stored Refused Honest shown below old = record {
  told = shown_told shown below;
  mirrors = refl;
  refused = record { says = tt; left = inl (Keeps-refl old) };
}

-- ---- once the ends that are left out are noted

-- what was done of a preview was done behind its note
pub noted_done : {T F : Type 0} (r : Result T F) (rest : ℕ) (said mid : Option (List ℕ))
    (Done : Option (List ℕ) → Type 0) → (rest ≡ 0 → Keeps said mid) → OnOk r (Done mid)
    → OnOk r ((m : Option (List ℕ)) × (rest ≡ 0 → Keeps said m) × Done m)
noted_done (Ok x) rest said mid Done quiet done = (mid, quiet, done)
noted_done (Err e) rest said mid Done quiet done = tt

pub holds_on : {T F : Type 0} (r : Result T F) (P : Type 0) → P → OnOk r P
holds_on (Ok x) P p = p
holds_on (Err e) P p = tt

-- where no ends were in the way, what refused it is what stands behind them
pub stopped_behind : {T : Type 0} (r : Result T DirectoryFault) (Cut : DirectoryFault → Type 0)
    (Whole : Type 0) (Refused : DirectoryFault → Type 0) → Whole → IfErr r Refused
    → IfErr r (λ e. Cut e ⊎ (Whole × Refused e))
stopped_behind (Ok x) Cut Whole Refused whole refused = tt
stopped_behind (Err e) Cut Whole Refused whole refused = inr (whole, refused)

-- ---- a line

match_true : (A B : Type 0) (b : Bool) → b ≡ true → A → MatchBool b A B
match_true A B true is a = a
match_true A B false is a = absurd cc

match_false : (A B : Type 0) (b : Bool) → b ≡ false → B → MatchBool b A B
match_false A B true is b = absurd cc
match_false A B false is b = b

module _ {C M : Type 0} (folders : Ghosts C M) (marks : mark.Ghosts M) where
  pub sees_at : {T F : Type 0} (r : Result T F) (line : DirectoryLine) (beside : Beside)
      (folder later : C) (begun ended : FileShelf C M) (old new said told : Option (List ℕ))
      → IsOpenToSee folders line.path.now beside folder begun
      → OnOk r (IsSeen (sight_of line) (asked_by line beside)
      (stored_at folders marks (told_by folders begun).place)
      (shown_at folders marks (told_by folders begun).place) MayRefuse (AreHonest folders.calls)
      (folders.calls folder) (folders.calls later) (moment (told_by folders begun) old)
      (moment (told_by folders ended) new) said told)
      → OnlyLooks (told_by folders begun) (told_by folders ended)
      → CallsOnlyRead (folders.calls folder) (folders.calls later)
      → OnOk r (SeesAt folders marks line old new said told)
  sees_at (Ok x) line beside folder later begun ended old new said told on seen looks reads =
      record {
        beside = beside;
        folder = folder;
        begun = begun;
        on = on;
        later = later;
        ended = ended;
        seen = seen;
        looks = looks;
        reads = reads;
      }
  sees_at (Err e) line beside folder later begun ended old new said told on seen looks reads = tt

  pub fails_at : {T : Type 0} (r : Result T LookFault) (line : DirectoryLine) (beside : Beside)
      (folder later : C) (begun ended : FileShelf C M) (old new : Option (List ℕ))
      → IsOpenToSee folders line.path.now beside folder begun
      → IfErr r (λ e. IsUnseen (sight_of line) (asked_by line beside)
      (stored_at folders marks (told_by folders begun).place)
      (shown_at folders marks (told_by folders begun).place) MayRefuse (AreHonest folders.calls) e
      (folders.calls folder) (folders.calls later) (moment (told_by folders begun) old)
      (moment (told_by folders ended) new))
      → OnlyLooks (told_by folders begun) (told_by folders ended)
      → CallsOnlyRead (folders.calls folder) (folders.calls later)
      → IfErr r (λ e. FailsToSee folders marks line e old new)
  fails_at (Ok x) line beside folder later begun ended old new on unseen looks reads = tt
  fails_at (Err e) line beside folder later begun ended old new on unseen looks reads =
      inr record {
        beside = beside;
        folder = folder;
        begun = begun;
        on = on;
        later = later;
        ended = ended;
        unseen = unseen;
        looks = looks;
        reads = reads;
      }

  pub sees_from : {T F : Type 0} (r : Result T F) (line : DirectoryLine) (holds : Place
      → (name image : List ℕ) → Type 0) (old new said told : Option (List ℕ))
      → sees_more line ≡ true → OnOk r (SeesAt folders marks line old new said told)
      → OnOk r (LooksAsAsked folders marks holds line old new said told)
  sees_from (Ok x) line holds old new said told is seen = match_true _ _ (sees_more line) is seen
  sees_from (Err e) line holds old new said told is seen = tt

  pub fails_seeing_from : {T : Type 0} (r : Result T LookFault) (line : DirectoryLine)
      (holds : Place → (name image : List ℕ) → Type 0) (old new : Option (List ℕ))
      → sees_more line ≡ true → IfErr r (λ e. FailsToSee folders marks line e old new)
      → IfErr r (λ e. FailsAsAsked folders marks holds line e old new)
  fails_seeing_from (Ok x) line holds old new is unseen = tt
  fails_seeing_from (Err e) line holds old new is unseen =
      match_true _ _ (sees_more line) is unseen

  pub lies_asked : (line : DirectoryLine) (holds : Place → (name image : List ℕ) → Type 0)
      (old new said told : Option (List ℕ)) → sees_more line ≡ false
      → LooksAsItLies folders marks holds line old new said told
      → LooksAsAsked folders marks holds line old new said told
  lies_asked line holds old new said told is done = match_false _ _ (sees_more line) is done

  pub fails_asked : (line : DirectoryLine) (holds : Place → (name image : List ℕ) → Type 0)
      (e : DirectoryFault) (old new : Option (List ℕ)) → sees_more line ≡ false
      → FailsAsItLies folders marks holds line e old new
      → FailsAsAsked folders marks holds line (Directory e) old new
  fails_asked line holds e old new is refused =
      match_false _ _ (sees_more line) is (e, refl, refused)

  either_fails : (b : Bool) (line : DirectoryLine) (holds : Place → (name image : List ℕ) → Type 0)
      (old : Option (List ℕ))
      → MatchBool b (FailsToSee folders marks line (Directory OutOfMemory) old old)
      ((e : DirectoryFault) × (Directory OutOfMemory ≡ Directory e)
      × FailsAsItLies folders marks holds line e old old)
  either_fails true line holds old = inl ((OutOfMemory, refl, inr refl), Keeps-refl old)
  either_fails false line holds old = (OutOfMemory, refl, inl (inl (inr refl, Keeps-refl old)))

  -- memory ran out before the folder was opened
  pub without_room : (line : DirectoryLine) (holds : Place → (name image : List ℕ) → Type 0)
      (old : Option (List ℕ))
      → (fault : LookFault) × FailsAsAsked folders marks holds line fault old old
  without_room line holds old =
      (Directory OutOfMemory, either_fails (sees_more line) line holds old)

  into_quiet : (asked : Asking) (Stored : ℕ → List ℕ → Type 0) (Honest : Type 0) (shown : Shown)
      (before after : Moment) (said told last : Option (List ℕ))
      → IsSeenInto asked Stored Honest shown before after said told → Keeps told last
      → IsSeenInto asked Stored Honest shown before after said last
  into_quiet asked Stored Honest shown before after said told last s kept = record {
    told = s.told;
    mirrors = s.mirrors;
    done = record {
      looked = then_quiet Honest asked (moment (shown_told shown before.told) before.out)
          (moment s.told after.out) said told last s.done.looked kept;
      given = s.done.given;
    };
  }

  sees_quiet : (line : DirectoryLine) (old new said told last : Option (List ℕ))
      → SeesAt folders marks line old new said told → Keeps told last
      → SeesAt folders marks line old new said last
  sees_quiet line old new said told last s kept = record {
    beside = s.beside;
    folder = s.folder;
    begun = s.begun;
    on = s.on;
    later = s.later;
    ended = s.ended;
    seen = record {
      preview = s.seen.preview;
      read = s.seen.read;
      is = s.seen.is;
      whole = s.seen.whole;
      said = s.seen.said;
      quiet = s.seen.quiet;
      done = into_quiet (asked_by line s.beside) _ (AreHonest folders.calls)
          (shown_of s.seen.preview.view) (moment s.seen.read old)
          (moment (told_by folders s.ended) new) s.seen.said told last s.seen.done kept;
    };
    looks = s.looks;
    reads = s.reads;
  }

  either_quiet : (b : Bool) (line : DirectoryLine) (holds : Place → (name image : List ℕ) → Type 0)
      (old new said told last : Option (List ℕ))
      → MatchBool b (SeesAt folders marks line old new said told)
      (LooksAsItLies folders marks holds line old new said told)
      → Keeps told last
      → MatchBool b (SeesAt folders marks line old new said last)
      (LooksAsItLies folders marks holds line old new said last)
  either_quiet true line holds old new said told last s kept =
      sees_quiet line old new said told last s kept
  either_quiet false line holds old new said told last s kept =
      lies_quiet folders marks holds line old new said told last s kept

  pub asked_on : {T F : Type 0} (r : Result T F) (status : ℕ) (line : DirectoryLine)
      (holds : Place → (name image : List ℕ) → Type 0)
      (old new said told last : Option (List ℕ)) → OnErr r (status ≡ 1)
      → OnOk r (LooksAsAsked folders marks holds line old new said told)
      → (status ≡ 0 → Keeps told last) → status ≡ 0
      → LooksAsAsked folders marks holds line old new said last
  asked_on (Ok x) status line holds old new said told last err looked kept zero =
      either_quiet (sees_more line) line holds old new said told last looked (kept zero)
  asked_on (Err e) status line holds old new said told last err looked kept zero =
      absurd (omega (arith, err, zero))
