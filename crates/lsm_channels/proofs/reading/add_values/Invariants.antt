use Rattle.std.proofs.Common.{◌≡◌, ◌++◌, length}
use Rattle.lsm_channels.specs.Reading.{values_at}
use Rattle.lsm_channels.proofs.reading.add_values.Given as goal

abbrev pub invariant-keys : goal.invariant-keys
invariant-keys g l = record {
  added : g.S.Shelf.honest → l.fn.values ++ values_at l.fn.view.history l.seq l.fn.keys ≡ l.values ++ values_at l.fn.view.history l.seq l.keys;
  rest : l.view ≡ record l.fn.view { told = l.view.told };
}

abbrev pub decreases-keys : goal.decreases-keys
decreases-keys g l = length l.keys
