use Rattle.std.proofs.Common.{refl, arith}
use Rattle.lsm_frames.specs.Views.{asked_of}
use Rattle.lsm_frames.proofs.RequestLaws.{found_by, never, just}
use Rattle.lsm_frames.proofs.request.Request.parse.Goals as goal

pub returns-in-Some : goal.returns-in-Some
returns-in-Some c = record {
  found = found_by asked_of c.args.content.now c.in-Some.request (λ i. omega (arith, c.type_inv.content i)) c.in-Some.ensures;
  only = λ asked h. (refl, just c.args.content.now (asked_of c.in-Some.request) asked c.in-Some.ensures h);
}

pub returns-in-None : goal.returns-in-None
returns-in-None c = record {
  found = tt;
  only = λ asked h. absurd (never c.args.content.now asked c.in-None.ensures h);
}
