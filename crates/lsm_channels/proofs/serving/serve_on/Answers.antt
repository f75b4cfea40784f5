use Rattle.std.proofs.Common.{inl, refl, ◌∙◌}
use Rattle.lsm_channels.proofs.serving.serve_on.Goals as goal

pub returns-in-Ok-clause-served : goal.returns-in-Ok-clause-served
returns-in-Ok-clause-served g c = rw (c.in-Ok.ensures.options ∙ c.options_for.ensures.options) at c.serve_as.ensures.served

pub returns-in-Ok-clause-refused : goal.returns-in-Ok-clause-refused
returns-in-Ok-clause-refused g c = rw (c.in-Ok.ensures.options ∙ c.options_for.ensures.options) at c.serve_as.ensures.refused

pub returns-in-Err-clause-refused : goal.returns-in-Err-clause-refused
returns-in-Err-clause-refused g c = inl (inl (refl, refl))

pub returns-in-Err-clause-back : goal.returns-in-Err-clause-back
returns-in-Err-clause-back g c = inl refl
