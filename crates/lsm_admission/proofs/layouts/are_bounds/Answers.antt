use Rattle.std.proofs.Common.{◌∙◌, ap, sym}
use Rattle.std.specs.Ordering.{is_le}
use Rattle.lsm_codec.specs.KeyRef.{key_of}
use Rattle.lsm_admission.proofs.Bounds.{are_bounds, not_ascending}
use Rattle.lsm_admission.proofs.layouts.are_bounds.Goals as goal

pub returns-clause-yes : goal.returns-clause-yes
returns-clause-yes c h =
    are_bounds c.args.smallest.now c.args.largest.now (key_of c.in-Ok.first)
    (key_of c.in-Ok-split.last) c.in-Ok.ensures.found c.in-Ok-split.ensures.found
    (ap is_le (sym c.compare.ensures) ∙ sym c.is_le.ensures ∙ h)

pub returns-clause-no : goal.returns-clause-no
returns-clause-no c h w =
    not_ascending c.args.smallest.now c.args.largest.now (key_of c.in-Ok.first)
    (key_of c.in-Ok-split.last) c.in-Ok.ensures.found c.in-Ok-split.ensures.found
    (ap is_le (sym c.compare.ensures) ∙ sym c.is_le.ensures ∙ h) w
