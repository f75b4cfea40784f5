-- What a command shows whose reads were compared, so that its folder needs no premise: this
-- project's rule.
use Rattle.std.specs.Prelude.{◌≡◌, ℕ, false, true, List, MatchBool, Option, ⊤}
use Rattle.lsm_folder.specs.declared.folder_calls.FolderCalls.{Ghosts}
use Rattle.lsm_folder.specs.declared.mark.Mark as mark
use Rattle.lsm_shelf.specs.Place.{Place}
use Rattle.lsm_shelf.specs.Told.{Told}
use Rattle.lsm_storage.specs.declared.file.file_shelf.FileShelf.{FileShelf}
use Rattle.lsm_version.specs.Versions.{IsSound, Levels}
use Rattle.clap.specs.Words.{Text}
use Rattle.lsm_requests.specs.declared.input.Input.{Input}
use Rattle.lsm_requests.specs.declared.directory_line.DirectoryLine.{DirectoryLine}
use Rattle.lsm_directory.specs.Beside.{LooksBeside}
use Rattle.lsm_directory.specs.Folders.{IsShelfAt, stored_at, told_by}
use Rattle.lsm_directory.specs.declared.folder.beside.Beside.{Beside}
use Rattle.lsm_directory.specs.declared.folder.named_manifest.NamedManifest.{NamedManifest}
use Rattle.lsm_cmd_read.specs.Answers.{Prints}
use Rattle.lsm_cmd_read.specs.Directory.{AreGiven}
use Rattle.lsm_cmd_read.specs.Quick.{is_quick}
use Rattle.lsm_cmd_read.specs.Seen.{IsOpenToSee, sees_more, shown_at, sight_of}
use Rattle.lsm_mirror.specs.Shown.{shown_of}
use Rattle.lsm_preview.specs.Preview.{IsPreview}
use Rattle.lsm_preview.specs.declared.seen.Preview.{Preview}
use Rattle.lsm_commands.specs.Run.{AreFollowed}
use Rattle.lsm_grammar.specs.declared.request.Request.{Request}
use Rattle.lsm_grammar.specs.declared.request.Request.TheVariants.{Convert, Look, Levels as LayOut}
use Rattle.lsm_grammar.specs.declared.request.Request.TheVariants.{Write as WriteFolder, Load}
use Rattle.lsm_grammar.specs.declared.request.Request.TheVariants.{Import, Recover, Repair, Compact}
use Rattle.lsm_grammar.specs.declared.request.Request.TheVariants.{Script, Shell, Bench}

module _ {C M : Type 0} (folders : Ghosts C M) (marks : mark.Ghosts M) where
  -- The folder at the path gave the tables of a version, which is sound, and just what the command
  -- prints of it was written.
  pub record Tells (line : DirectoryLine) (old new : Option (List ℕ)) : Type 0 where
    pub beside : Beside
    pub begun : FileShelf C M
    pub on : IsShelfAt folders line.path.now (LooksBeside beside) begun
    pub version : Levels
    pub manifest : NamedManifest
    pub given : AreGiven (stored_at folders marks (told_by folders begun).place) version
    pub sound : IsSound version
    pub printed : Prints line.form line.command version manifest beside old new

  -- The folder at the path was opened, and of what was read there this is a view, whose tables it
  -- gave: the version has just such tables, is sound, and just what the command prints of it was
  -- written.
  pub record TellsSeen (line : DirectoryLine) (old new : Option (List ℕ)) : Type 0 where
    pub beside : Beside
    pub folder : C
    pub begun : FileShelf C M
    pub on : IsOpenToSee folders line.path.now beside folder begun
    pub later : C
    pub read : Told
    pub preview : Preview
    pub seen : IsPreview (stored_at folders marks (told_by folders begun).place) (sight_of line)
        beside.logs.items preview (folders.calls folder) (folders.calls later)
        (told_by folders begun) read
    pub version : Levels
    pub manifest : NamedManifest
    pub given : AreGiven
        (shown_at folders marks (told_by folders begun).place (shown_of preview.view)) version
    pub sound : IsSound version
    pub printed : Prints line.form line.command version manifest beside old new

  -- so it is of a command that judges the tables first
  abbrev pub ShowsTheTruth : Request → (old new : Option (List ℕ)) → Type 0
  ShowsTheTruth (Convert conversion input) old new = ⊤
  ShowsTheTruth (Look line) old new = MatchBool (sees_more line) (TellsSeen line old new)
      (is_quick line.command line.quick ≡ false → Tells line old new)
  ShowsTheTruth (LayOut line) old new = ⊤
  ShowsTheTruth (WriteFolder line) old new = ⊤
  ShowsTheTruth (Load line) old new = ⊤
  ShowsTheTruth (Import line) old new = ⊤
  ShowsTheTruth (Recover line) old new = ⊤
  ShowsTheTruth (Repair path) old new = ⊤
  ShowsTheTruth (Compact line) old new = ⊤
  ShowsTheTruth (Script input) old new = ⊤
  ShowsTheTruth (Shell line) old new = ⊤
  ShowsTheTruth (Bench line) old new = ⊤

module _ {C M : Type 0} (folders : Ghosts C M) (marks : mark.Ghosts M)
    (holds : Place → (name image : List ℕ) → Type 0) where
  -- The words ask for a command whose reads are compared, and it was done; so what it shows is so.
  pub record AreCompared (text : Input → Option (List ℕ)) (words : List Text)
      (old new said_old said_new : Option (List ℕ)) : Type 0 where
    pub done : AreFollowed folders marks holds true text words old new said_old said_new
    pub told : ShowsTheTruth folders marks done.request old new
