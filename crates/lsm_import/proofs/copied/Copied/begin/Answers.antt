use Rattle.std.proofs.Common.{List, subst}
use Rattle.lsm_manifest.specs.EditFit.{Change}
use Rattle.lsm_manifest.specs.Shape.{IsReplayed}
use Rattle.lsm_import.proofs.copied.Copied.begin.Goals as goal

pub returns-in-Ok-start_manifest-clause-shape : goal.returns-in-Ok-start_manifest-clause-shape
returns-in-Ok-start_manifest-clause-shape g c =
    subst (λ (es : List Change). IsReplayed es c.in-Ok.shape) c.from_ref.ensures.value
    c.in-Ok.ensures.found
