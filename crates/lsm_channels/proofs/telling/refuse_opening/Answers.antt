use Rattle.lsm_channels.proofs.TellingLaws.{told_frame}
use Rattle.lsm_channels.proofs.telling.refuse_opening.Goals as goal

pub returns-in-Ok : goal.returns-in-Ok
returns-in-Ok c = told_frame (λ v. v.items) c.refuse_by.result c.args.fault.now _ _ _ _ _
    c.refusal-number.ensures.number c.refusal-number.ensures.name c.in_ok-text.ensures
    c.as_slice.ensures.value c.in-Ok.ensures.cases.0 c.refuse_by.ensures
