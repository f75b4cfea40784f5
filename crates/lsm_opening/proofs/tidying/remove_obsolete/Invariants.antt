use Rattle.std.proofs.Common.{◌≡◌, map, take, string_bytes}
use Rattle.lsm_opening.specs.Tidying.{AsksObsolete}
use Rattle.lsm_opening.proofs.tidying.remove_obsolete.Given as goal

-- of the names so far the obsolete ones were asked to be removed
abbrev pub invariant-loop-name : goal.invariant-loop-name
invariant-loop-name g l = record {
  asked : AsksObsolete l.fn.manifest (map string_bytes (take l.name-index l.names)) (g.C.FolderCalls.calls l.fn.folder) (g.C.FolderCalls.calls l.folder);
  place : g.C.FolderCalls.place l.folder ≡ g.C.FolderCalls.place l.fn.folder;
}
