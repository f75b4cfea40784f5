use Rattle.std.proofs.Common.{◌≡◌, map}
use Rattle.std.specs.List.{flat_map}
use Rattle.lsm_table.specs.Told.{Becomes}
use Rattle.lsm_query.specs.Runs.{AreNamed, AreRunsFrom, IsAbove, IsNumberIn}
use Rattle.lsm_version.specs.Versions.{level_in}
use Rattle.lsm_query.proofs.runs.open_runs_from.Given as goal

abbrev pub invariant-loop-number : goal.invariant-loop-number
invariant-loop-number g l = record {
  told : Becomes (g.B.Blocks.told l.fn.blocks) (g.B.Blocks.told l.blocks);
  loan : g.B.Blocks.loan l.blocks ≡ g.B.Blocks.loan l.fn.blocks;
  named : AreNamed (IsNumberIn l.levels) (flat_map (λ r. r.files) l.runs.items);
  made : g.S.Shelf.honest → AreRunsFrom l.from (level_in l.levels 0) (IsAbove l.number l.levels) (map (λ r. r.placed) l.runs.items);
}
