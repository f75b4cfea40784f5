use Rattle.std.proofs.Common.{◌≡◌, take}
use Rattle.lsm_log_files.specs.Logs.{AreRead}
use Rattle.lsm_opening.specs.Tidying.{OnlyReads}
use Rattle.lsm_log_files.proofs.reading.read_logs.Given as goal

-- the logs so far were read
abbrev pub invariant-loop-number : goal.invariant-loop-number
invariant-loop-number g l = record {
  read : AreRead (take l.number-index l.numbers) l.logs l.rest (g.C.FolderCalls.calls l.fn.folder)
      (g.C.FolderCalls.calls l.folder);
  reads : OnlyReads (g.C.FolderCalls.calls l.fn.folder) (g.C.FolderCalls.calls l.folder);
  place : g.C.FolderCalls.place l.folder ≡ g.C.FolderCalls.place l.fn.folder;
}
