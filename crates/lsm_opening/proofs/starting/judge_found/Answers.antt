use Rattle.std.proofs.Common.{inr, refl}
use Rattle.lsm_opening.proofs.starting.judge_found.Goals as goal

pub returns-in-Some-clause-refused : goal.returns-in-Some-clause-refused
returns-in-Some-clause-refused g c = inr (
  c.in-Some.number,
  refl,
  record {
    held = _;
    shape = _;
    rest = _;
    recovered = c.in_ok-found.ensures.recovered;
    told = c.in_ok-found.ensures.found;
    holds = c.in-Some.ensures;
  },
)
