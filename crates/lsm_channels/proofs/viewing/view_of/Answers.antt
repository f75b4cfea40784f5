use Rattle.std.proofs.Common.{[], ap, ◌∙◌}
use Rattle.lsm_store.specs.Readers.{Learnt}
use Rattle.lsm_channels.proofs.viewing.view_of.Goals as goal

pub returns-in-Err-clause-later : goal.returns-in-Err-clause-later
returns-in-Err-clause-later g c = ([], ap (λ (r : Learnt). r.history) c.in-Err.ensures.err ∙ ap (λ (r : Learnt). r.history) c.reader.view_is)
