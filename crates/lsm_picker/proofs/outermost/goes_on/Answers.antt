use Rattle.lsm_picker.proofs.outermost.goes_on.Goals as goal

pub returns-then-is_beyond_from : goal.returns-then-is_beyond_from
returns-then-is_beyond_from g c = (
  λ yes. record {
    beyond = c.is_beyond_from.ensures.0 (cc c.if-is_beyond_from.true);
    stairs = c.are_stairs.ensures.0 yes;
  },
  λ on. c.are_stairs.ensures.1 on.stairs,
)
