use Rattle.std.proofs.Common.{◌≡◌, ◌++◌, replicate}
use Rattle.lsm_commands.specs.Waiting.{busy}
use Rattle.lsm_commands.proofs.waiting.await_lock.Given as goal

-- another had the lock each time so far
abbrev pub invariant-loop : goal.invariant-loop
invariant-loop g l = record {
  asked : g.C.FolderCalls.calls l.folder
      ≡ replicate l.counter (busy l.fn.kind) ++ g.C.FolderCalls.calls l.fn.folder;
  place : g.C.FolderCalls.place l.folder ≡ g.C.FolderCalls.place l.fn.folder;
}
