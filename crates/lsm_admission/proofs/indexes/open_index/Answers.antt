use Rattle.std.proofs.Common.{ℕ, List, subst}
use Rattle.lsm_admission.specs.Indexes.{HasIndex}
use Rattle.lsm_admission.proofs.IndexLaws.{settled_has}
use Rattle.lsm_admission.proofs.indexes.open_index.Goals as goal

pub returns-in-Ok-clause-opened : goal.returns-in-Ok-clause-opened
returns-in-Ok-clause-opened g c = λ honest.
    subst HasIndex c.record-record.ensures.image (settled_has _ (c.in-Ok.ensures.exact honest))
