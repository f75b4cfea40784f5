use Rattle.lsm_directory.specs.Folders.{told_by}
use Rattle.lsm_cmd_read.specs.Seen.{sight_of}
use Rattle.lsm_cmd_read.proofs.SeenAnswers.{read_of}
use Rattle.lsm_cmd_read.proofs.laws.seen_lines_answer.Goals as goal

pub returns : goal.returns
returns g c = λ line old new said told s honest es below none key.
    c.versions_answer.ensures (told_by g.C.FolderCalls s.begun).place (sight_of line)
    s.beside.logs.items s.seen.preview
    (g.C.FolderCalls.calls s.folder) (g.C.FolderCalls.calls s.later)
    (told_by g.C.FolderCalls s.begun) s.seen.read s.seen.is
    s.seen.done.done.looked.version
    (read_of g.C.FolderCalls g.C.Mark.Mark honest line old new said told s) es below none key
