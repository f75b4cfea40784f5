use Rattle.std.proofs.Common.{◌≡◌, map, take, string_bytes}
use Rattle.lsm_cmd_write.specs.Cleaning.{AreRemoved}
use Rattle.lsm_cmd_write.proofs.cleaning.remove_spares.Given as goal

-- of the names so far the spare ones are removed
abbrev pub invariant-loop-name : goal.invariant-loop-name
invariant-loop-name g l = record {
  removed :
      AreRemoved l.fn.kept.journal l.fn.kept.tables.items (map string_bytes (take l.name-index l.names)) (g.C.FolderCalls.calls l.fn.folder) (g.C.FolderCalls.calls l.folder)
      (g.O.Write.contents l.fn.out) (g.O.Write.contents l.out);
  place : g.C.FolderCalls.place l.folder ≡ g.C.FolderCalls.place l.fn.folder;
}
