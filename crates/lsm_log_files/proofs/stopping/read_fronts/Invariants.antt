use Rattle.std.proofs.Common.{◌≡◌, ◌≤◌, length, take}
use Rattle.lsm_log_files.specs.Logs.{AreRead}
use Rattle.lsm_opening.specs.Tidying.{OnlyReads}
use Rattle.lsm_log_files.proofs.stopping.read_fronts.Given as goal

-- the logs so far were read, each whole
abbrev pub invariant-loop-number : goal.invariant-loop-number
invariant-loop-number g l = record {
  read : AreRead (take l.number-index l.numbers) l.logs l.rest (g.C.FolderCalls.calls l.fn.folder)
      (g.C.FolderCalls.calls l.folder);
  counted : l.count ≡ l.number-index;
  within : l.number-index ≤ length l.numbers;
  reads : OnlyReads (g.C.FolderCalls.calls l.fn.folder) (g.C.FolderCalls.calls l.folder);
  place : g.C.FolderCalls.place l.folder ≡ g.C.FolderCalls.place l.fn.folder;
}
