use Rattle.std.proofs.Common.{[]}
use Rattle.lsm_preview.proofs.previewing.preview.Given as goal

-- the name stands for no records, and for the contents of the shelf
abbrev pub ghosts-preview_as : goal.ghosts-preview_as
ghosts-preview_as g a = record {
  registry = record { tag = []; buckets = [] };
  place = (g.S.Shelf.told a.shelf).place;
}
