use Rattle.std.proofs.Common.{◌≡◌, take, map}
use Rattle.std.specs.List.{flat_map}
use Rattle.lsm_codec.specs.Lists.{Has}
use Rattle.lsm_table.specs.Told.{Becomes}
use Rattle.lsm_query.specs.Runs.{AreNamed, AreRunsFrom, IsNumberOf}
use Rattle.lsm_version.specs.Versions.{files_of, level_in}
use Rattle.lsm_query.proofs.runs.open_shallow.Given as goal

abbrev pub invariant-loop-index : goal.invariant-loop-index
invariant-loop-index g l = record {
  told : Becomes (g.B.Blocks.told l.fn.blocks) (g.B.Blocks.told l.blocks);
  loan : g.B.Blocks.loan l.blocks ≡ g.B.Blocks.loan l.fn.blocks;
  named : AreNamed (IsNumberOf (level_in l.levels 0)) (flat_map (λ r. r.files) l.runs.items);
  made : g.S.Shelf.honest → AreRunsFrom l.from (level_in l.levels 0) (Has (files_of 0 (take l.index (level_in l.levels 0)))) (map (λ r. r.placed) l.runs.items);
}
