use Rattle.std.proofs.Common.{◌≡◌, ◌-◌, ◌++◌, drop, length}
use Rattle.lsm_cmd_bench.specs.Pairs.{digits}
use Rattle.lsm_cmd_bench.proofs.key.key_of.Given as goal

abbrev pub invariant-digits : goal.invariant-digits
invariant-digits l = record {
  text : digits (16 - l.place) l.rest ++ drop (16 - l.place) l.key ≡ digits 16 l.fn.number;
  long : length l.key ≡ 16;
}
