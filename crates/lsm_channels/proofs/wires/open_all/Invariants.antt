use Rattle.std.proofs.Common.{◌≡◌, ◌++◌, ◌≤◌, map, vec_capacity, vec_len}
use Rattle.lsm_channels.specs.Serving.{end, ends_from, opened_from}
use Rattle.lsm_channels.proofs.wires.open_all.Given as goal

abbrev pub invariant-loop-number : goal.invariant-loop-number
invariant-loop-number g l = record {
  wires : map (λ w. end (g.D.Wire.Wire.descriptor w) (g.D.Wire.Wire.happened w)) l.wires.items ≡ ends_from l.fn.first l.number;
  opened : g.D.Descriptors.opened l.descriptors ≡ opened_from l.fn.first l.number ++ g.D.Descriptors.opened l.fn.descriptors;
  len : vec_len l.wires ≡ l.number;
  room : l.fn.count ≤ vec_capacity l.wires;
}
