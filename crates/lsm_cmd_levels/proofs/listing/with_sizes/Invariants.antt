use Rattle.std.proofs.Common.{◌≡◌, length, map}
use Rattle.std.specs.Prelude.{string_bytes}
use Rattle.std.specs.Vec.Iter.{into_iter_items, into_iter_len}
use Rattle.lsm_cmd_levels.proofs.ListingLaws.{SoFar}
use Rattle.lsm_cmd_levels.proofs.listing.with_sizes.Given as goal

-- what was asked so far, where the iterator holds the names that are left
abbrev pub invariant-loop-name : goal.invariant-loop-name
invariant-loop-name g l = record {
  sizes :
      SoFar (map string_bytes (into_iter_items l.name-iterator)) (map string_bytes l.fn.names.items) l.files.items (g.C.FolderCalls.calls l.fn.folder)
      (g.C.FolderCalls.calls l.folder);
  left : length (into_iter_items l.name-iterator) ≡ into_iter_len l.name-iterator;
  place : g.C.FolderCalls.place l.folder ≡ g.C.FolderCalls.place l.fn.folder;
}
