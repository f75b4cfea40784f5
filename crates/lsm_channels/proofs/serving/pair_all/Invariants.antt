use Rattle.std.proofs.Common.{◌≡◌, ◌+◌, ◌++◌, ◌≤◌, All, map, vec_capacity, vec_len}
use Rattle.std.specs.Prelude.{reverse}
use Rattle.lsm_channels.specs.Serving.{IsFresh}
use Rattle.lsm_channels.proofs.serving.pair_all.Given as goal

abbrev pub invariant-loop-wire : goal.invariant-loop-wire
invariant-loop-wire g l = record {
  wires : l.wires.items ++ reverse (map (λ c. c.wire) l.channels.items) ≡ l.fn.wires.items;
  left : All (IsFresh g.K.Invariant.keeps) l.sessions.items;
  fresh : All (λ c. IsFresh g.K.Invariant.keeps c.session) l.channels.items;
  each : vec_len l.sessions ≡ vec_len l.wires;
  room : vec_len l.channels + vec_len l.wires ≤ vec_capacity l.channels;
  all : vec_len l.channels + vec_len l.wires ≡ vec_len l.fn.wires;
}

abbrev pub decreases-loop-wire : goal.decreases-loop-wire
decreases-loop-wire g l = vec_len l.wires
