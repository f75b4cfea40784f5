use Rattle.std.proofs.Common.{refl, arith}
use Rattle.lsm_log_files.proofs.reading.read_log.Goals as goal

pub returns-in-Ok-clause-read : goal.returns-in-Ok-clause-read
returns-in-Ok-clause-read g c = record {
  log = record {
    number = c.args.number;
    bytes = c.in_ok-bytes.bytes.items;
    batches =
        c.in-Ok.ensures.ok.0;
    rest = c.in-Ok.rest;
  };
  numbered = refl;
  is = rw c.deref.ensures.value at c.in-Ok.ensures.ok.1;
  more = c.in-Ok.ensures.ok.2;
  sums = omega arith;
  call = c.in_ok-bytes.ensures.given;
}
