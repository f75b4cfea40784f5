-- What a command shows whose reads were compared.
use Rattle.std.proofs.Common.{◌≡◌, ℕ, List, Option, Bool, false, true, inl, inr}
use Rattle.std.specs.Prelude.{MatchBool}
use Rattle.clap.specs.Words.{Text}
use Rattle.lsm_folder.specs.Calls.{AreHonest}
use Rattle.lsm_folder.specs.declared.folder_calls.FolderCalls.{Ghosts}
use Rattle.lsm_folder.specs.declared.mark.Mark as mark
use Rattle.lsm_shelf.specs.Place.{Place}
use Rattle.lsm_requests.specs.declared.directory_command.DirectoryCommand.{DirectoryCommand}
use Rattle.lsm_requests.specs.declared.directory_command.DirectoryCommand.TheVariants.{
  Check,
  List as ListFiles,
  Get,
  Scan,
}
use Rattle.lsm_requests.specs.declared.directory_line.DirectoryLine.{DirectoryLine}
use Rattle.lsm_requests.specs.declared.input.Input.{Input}
use Rattle.lsm_cmd_read.specs.Answers.{ReliesOn}
use Rattle.lsm_cmd_read.specs.Looked.{LooksAsItLies}
use Rattle.lsm_cmd_read.specs.Quick.{is_quick}
use Rattle.lsm_cmd_read.specs.Seen.{SeesAt, sees_more}
use Rattle.lsm_grammar.specs.declared.request.Request.{Request}
use Rattle.lsm_grammar.specs.declared.request.Request.TheVariants.{Convert, Look, Levels}
use Rattle.lsm_grammar.specs.declared.request.Request.TheVariants.{Write as WriteFolder, Load}
use Rattle.lsm_grammar.specs.declared.request.Request.TheVariants.{Import, Recover, Repair, Compact}
use Rattle.lsm_grammar.specs.declared.request.Request.TheVariants.{Script, Shell, Bench}
use Rattle.lsm_grammar.specs.Requests.{Asks, IsMannerOf}
use Rattle.lsm_grammar.specs.declared.manner.Manner.{Manner}
use Rattle.lsm_commands.specs.Compared.{AreCompared, ShowsTheTruth, Tells, TellsSeen}
use Rattle.lsm_commands.specs.Run.{AreFollowed, AreUnfollowed, IsDone, IsFollowed, IsUnfollowed}

never : (b : Bool) → b ≡ false → b ≡ true → ⊥
never b is_false is_true = absurd cc

relies : (Honest : Type 0) → Honest → (command : DirectoryCommand) → ReliesOn Honest command
relies Honest honest (Check workers) = tt
relies Honest honest ListFiles = tt
relies Honest honest (Get key output) = honest
relies Honest honest (Scan options) = honest

module _ {C M : Type 0} (folders : Ghosts C M) (marks : mark.Ghosts M)
    (holds : Place → (name image : List ℕ) → Type 0) (honest : AreHonest folders.calls) where
  tells : (line : DirectoryLine) (old new said_old said_new : Option (List ℕ))
      → is_quick line.command line.quick ≡ false
      → LooksAsItLies folders marks holds line old new said_old said_new
      → Tells folders marks line old new
  tells line old new said_old said_new plain (inl looked) = record {
    beside = looked.looks.beside;
    begun = looked.looks.begun;
    on = looked.looks.on;
    version = looked.looks.done.version;
    manifest = looked.looks.done.manifest;
    given = looked.given;
    sound = looked.looks.done.holds.found.loaded.sound honest;
    printed = looked.looks.done.printed (relies (AreHonest folders.calls) honest line.command);
  }
  tells line old new said_old said_new plain (inr quick) =
      absurd (never (is_quick line.command line.quick) plain quick.0)

  tells_seen : (line : DirectoryLine) (old new said_old said_new : Option (List ℕ))
      → SeesAt folders marks line old new said_old said_new → TellsSeen folders marks line old new
  tells_seen line old new said_old said_new s = record {
    beside = s.beside;
    folder = s.folder;
    begun = s.begun;
    on = s.on;
    later = s.later;
    read = s.seen.read;
    preview = s.seen.preview;
    seen = s.seen.is;
    version = s.seen.done.done.looked.version;
    manifest = s.seen.done.done.looked.manifest;
    given = s.seen.done.done.given;
    sound = s.seen.done.done.looked.holds.found.loaded.sound honest;
    printed = s.seen.done.done.looked.printed
        (relies (AreHonest folders.calls) honest line.command);
  }

  either_tells : (b : Bool) (line : DirectoryLine) (old new said_old said_new : Option (List ℕ))
      → MatchBool b (SeesAt folders marks line old new said_old said_new)
      (LooksAsItLies folders marks holds line old new said_old said_new)
      → MatchBool b (TellsSeen folders marks line old new)
      (is_quick line.command line.quick ≡ false → Tells folders marks line old new)
  either_tells true line old new said_old said_new s =
      tells_seen line old new said_old said_new s
  either_tells false line old new said_old said_new done =
      λ plain. tells line old new said_old said_new plain done

  -- so it is of each request
  pub shows : (text : Input → Option (List ℕ)) (request : Request)
      (old new said_old said_new : Option (List ℕ))
      → IsDone folders marks holds text request old new said_old said_new
      → ShowsTheTruth folders marks request old new
  shows text (Convert conversion input) old new said_old said_new done = tt
  shows text (Look line) old new said_old said_new done =
      either_tells (sees_more line) line old new said_old said_new done
  shows text (Levels line) old new said_old said_new done = tt
  shows text (WriteFolder line) old new said_old said_new done = tt
  shows text (Load line) old new said_old said_new done = tt
  shows text (Import line) old new said_old said_new done = tt
  shows text (Recover line) old new said_old said_new done = tt
  shows text (Repair path) old new said_old said_new done = tt
  shows text (Compact line) old new said_old said_new done = tt
  shows text (Script input) old new said_old said_new done = tt
  shows text (Shell line) old new said_old said_new done = tt
  shows text (Bench line) old new said_old said_new done = tt

module _ {C M : Type 0} (folders : Ghosts C M) (marks : mark.Ghosts M)
    (holds : Place → (name image : List ℕ) → Type 0) (compares : Bool)
    (text : Input → Option (List ℕ)) (words : List Text) (request : Request) (manner : Manner)
    (line : Asks request words × IsMannerOf words manner) (so : manner.compares ≡ compares) where
  -- what was done in a manner was done in that of the words
  pub followed : (old new said_old said_new : Option (List ℕ))
      → IsFollowed folders marks holds text request manner old new said_old said_new
      → AreFollowed folders marks holds compares text words old new said_old said_new
  followed old new said_old said_new done = record {
    request = request;
    manner = manner;
    asked = line.0;
    how = line.1;
    compared = so;
    followed = done;
  }

  -- and what was not
  pub unfollowed : (old new : Option (List ℕ))
      → IsUnfollowed folders marks holds text request manner old new
      → AreUnfollowed folders marks holds compares text words old new
  unfollowed old new undone = record {
    request = request;
    manner = manner;
    asked = line.0;
    how = line.1;
    compared = so;
    undone = undone;
  }

module _ {C M : Type 0} (folders : Ghosts C M) (marks : mark.Ghosts M)
    (holds : Place → (name image : List ℕ) → Type 0) (honest : AreHonest folders.calls)
    (text : Input → Option (List ℕ)) (words : List Text) (request : Request) (manner : Manner)
    (line : Asks request words × IsMannerOf words manner) (so : manner.compares ≡ true) where
  -- what was done and compared is so
  pub compared : (old new said_old said_new : Option (List ℕ))
      → IsFollowed folders marks holds text request manner old new said_old said_new
      → AreCompared folders marks holds text words old new said_old said_new
  unfolding followed
  compared old new said_old said_new done = record {
    done = followed
        folders
        marks
        holds
        true
        text
        words
        request
        manner
        line
        so
        old
        new
        said_old
        said_new
        done;
    told = shows folders marks holds honest text request old new done.said said_new done.done;
  }
