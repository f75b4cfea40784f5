-- What is told of what is not read, where there is nothing and where there is something.
use Rattle.std.proofs.Common.{◌≡◌, ℕ, List, [], ◌∷◌, ◌++◌, refl, ap, ◌∙◌, subst, append-nil, inl}
use Rattle.std.proofs.Common.{inr, arith, Option, OnOk, Bool, true, false, sym}
use Rattle.std.specs.Prelude.{Result, Ok, Err, IsFalse, None}
use Rattle.std.specs.Io.KnownBytes.{Appends}
use Rattle.lsm_codec.specs.Lists.{Has}
use Rattle.lsm_version.specs.Versions.{Levels}
use Rattle.lsm_cmd_read.specs.Answers.{AppendsRest, WritesNotes}
use Rattle.lsm_cmd_read.specs.Listing.{IsChecked, check_text}
use Rattle.lsm_directory.specs.Beside.{IsPlain, beside_text, later_text, later_than, rocksdb_text}
use Rattle.lsm_directory.specs.Logs.{AppendsLogs, AreThose, IsFirstUnread, IsUnread, NoneUnread}
use Rattle.lsm_directory.specs.Logs.{log_line, log_lines, note_line}
use Rattle.lsm_directory.specs.declared.folder.beside.Beside.{Beside}
use Rattle.lsm_directory.specs.declared.folder.folder_file.FolderFile.{FolderFile}
use Rattle.lsm_directory.specs.declared.folder.named_manifest.NamedManifest.{NamedManifest}

-- where none is unread, no line is added
pub none_those : (log prev : ℕ) (files logs : List FolderFile) → NoneUnread log prev files
    → AreThose (IsUnread log prev) files logs → logs ≡ []
none_those log prev [] logs none is = is
none_those log prev (x ∷ xs) logs none (inl (unread, more)) = absurd (none x (inl refl) unread)
none_those log prev (x ∷ xs) logs none (inr (other, those)) =
    none_those log prev xs logs (λ file has. none file (inr has)) those

pub none_text : (line : FolderFile → List ℕ) (log prev : ℕ) (files : List FolderFile)
    (old new : List ℕ) → NoneUnread log prev files → AppendsLogs line log prev files old new
    → new ≡ old
unfolding log_lines
none_text line log prev files old new none (logs, those, text) =
    let same : logs ≡ [] = none_those log prev files logs none those in
    text ∙ ap (λ (l : List FolderFile). old ++ log_lines line l) same ∙ append-nil old

pub no_files : (log prev : ℕ) → NoneUnread log prev []
no_files log prev file has = absurd has

has_middle : (before : List FolderFile) (file : FolderFile) (after : List FolderFile)
    → Has (before ++ file ∷ after) file
has_middle [] file after = inl refl
has_middle (x ∷ xs) file after = inr (has_middle xs file after)

-- where none is unread, none is the first that is
pub none_is_first : (log prev : ℕ) (files : List FolderFile) (n : ℕ) → NoneUnread log prev files
    → IsFirstUnread log prev files n → ⊥
none_is_first log prev files n none first =
    none first.file
    (subst (λ (fs : List FolderFile). Has fs first.file) (sym first.parts)
    (has_middle first.before first.file first.after)) first.unread

-- a folder of LevelDB alone, whose latest manifest is named, has no note of others
no_rocksdb : (b : Bool) → IsFalse b → rocksdb_text b ≡ []
no_rocksdb true h = absurd cc
no_rocksdb false h = refl

plain_text : (number : ℕ) (beside : Beside) → IsPlain number beside → beside_text number beside ≡ []
unfolding beside_text
plain_text number beside plain =
    ap (λ (o : Option ℕ). later_text number o ++ rocksdb_text beside.rocksdb) plain.0
    ∙ no_rocksdb beside.rocksdb plain.1

-- nothing at the manifest's end, nothing else, and no log: no note
pub none_noted : (m : NamedManifest) (beside : Beside) (files : List FolderFile)
    (first note more text : List ℕ) → first ≡ [] → IsPlain m.number beside → m.rest ≡ 0
    → NoneUnread m.log m.prev_log files
    → AppendsRest m.rest first note → more ≡ note ++ beside_text m.number beside
    → AppendsLogs note_line m.log m.prev_log files more text → text ≡ []
none_noted m beside files first note more text empty plain zero none (inl (is, same)) others logs =
    none_text note_line m.log m.prev_log files more text none logs ∙ others
    ∙ ap (λ (t : List ℕ). note ++ t) (plain_text m.number beside plain) ∙ append-nil note ∙ same
    ∙ empty
none_noted m beside files first note more text empty plain zero none (inr (some, is)) others logs =
    absurd (omega arith)

-- the notes, one behind the other
pub notes_written : {T E : Type 0} (r : Result T E) (m : NamedManifest) (beside : Beside)
    (files : List FolderFile) (first note more text : List ℕ) (old new : Option (List ℕ))
    → first ≡ []
    → AppendsRest m.rest first note → more ≡ note ++ beside_text m.number beside
    → AppendsLogs note_line m.log m.prev_log files more text → OnOk r (Appends old new text)
    → OnOk r (WritesNotes m beside files old new)
notes_written (Ok x) m beside files first note more text old new empty a others logs written = (
  text,
  (
    note,
    subst (λ (t : List ℕ). AppendsRest m.rest t note) empty a,
    subst
        (λ (t : List ℕ). AppendsLogs note_line m.log m.prev_log files t text) others logs,
  ),
  written,
)
notes_written (Err e) m beside files first note more text old new empty a others logs written = tt

pub checked_logs : (v : Levels) (m : NamedManifest) (beside : Beside) (mid new : List ℕ)
    → mid ≡ check_text v m.rest → AppendsLogs log_line m.log m.prev_log beside.logs.items mid new
    → IsChecked v m beside new
checked_logs v m beside mid new is h =
    subst (λ (t : List ℕ). AppendsLogs log_line m.log m.prev_log beside.logs.items t new) is h
