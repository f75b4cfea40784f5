use Rattle.std.proofs.Common.{[]}
use Rattle.lsm_admission.proofs.admitted.recover_manifest.Given as goal

-- the name stands for the contents of the shelf, and for no registry
abbrev pub ghosts-recover_named : goal.ghosts-recover_named
ghosts-recover_named g a = record {
  registry = record { tag = []; buckets = [] };
  place =
      (g.S.Shelf.told a.shelf).place;
}
