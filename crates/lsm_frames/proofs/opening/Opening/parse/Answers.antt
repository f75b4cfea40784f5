use Rattle.std.proofs.Common.{refl, arith}
use Rattle.lsm_frames.specs.OpeningView.{opened_of}
use Rattle.lsm_frames.proofs.OpeningLaws.{opening_found, opening_never, opening_just}
use Rattle.lsm_frames.proofs.opening.Opening.parse.Goals as goal

pub returns-in-Some : goal.returns-in-Some
returns-in-Some c = record {
  found = opening_found c.args.content.now (opened_of c.in-Some.opening) (λ i. omega (arith, c.type_inv.content i)) c.in-Some.ensures;
  only = λ opened h. (refl, opening_just c.args.content.now (opened_of c.in-Some.opening) opened c.in-Some.ensures h);
}

pub returns-in-None : goal.returns-in-None
returns-in-None c = record {
  found = tt;
  only = λ opened h. absurd (opening_never c.args.content.now opened c.in-None.ensures h);
}
