use Rattle.std.proofs.Common.{◌≡◌, length}
use Rattle.lsm_frames.specs.Views.{stretch_of}
use Rattle.lsm_channels.specs.Stepping.{ahead}
use Rattle.lsm_channels.proofs.PairLaws.{SoFar}
use Rattle.lsm_channels.proofs.scanning.fill.Given as goal

abbrev pub invariant-loop-count : goal.invariant-loop-count
invariant-loop-count g l = record {
  so_far : g.S.Shelf.honest → SoFar (stretch_of l.range).to l.range.limit (ahead l.fn.first l.fn.scan.left) (ahead l.next l.scan.left) l.pairs;
  count : length l.pairs ≡ l.count;
  rest : l.view ≡ record l.fn.view { told = l.view.told };
}
