use Rattle.std.proofs.Common.{inl, inr, refl, subst}
use Rattle.lsm_channels.specs.Serving.{forks_for}
use Rattle.lsm_channels.proofs.KeepingLaws.{quiet_looks}
use Rattle.lsm_shelf.specs.Told.{ForkedTimes}
use Rattle.lsm_channels.proofs.serving.serve_state.Goals as goal

pub returns-in-Ok-serve_opened-clause-told : goal.returns-in-Ok-serve_opened-clause-told
returns-in-Ok-serve_opened-clause-told g c =
    subst (λ n. ForkedTimes (forks_for n c.args.workers) c.args.shelf.now c.open_state.new.shelf)
    c.in-Ok-serve_opened.ensures.each c.in-Ok.ensures.told

pub returns-in-Err-serve_opened-clause-fault : goal.returns-in-Err-serve_opened-clause-fault
returns-in-Err-serve_opened-clause-fault g c = inl c.in-Err-serve_opened.ensures.fault

pub returns-in-Err-clause-fault : goal.returns-in-Err-clause-fault
returns-in-Err-clause-fault g c = inr (c.in-Err.fault, c.of_shelf.ensures, c.in-Err.ensures.cause)

pub returns-in-Err-clause-back : goal.returns-in-Err-clause-back
returns-in-Err-clause-back g c = inl refl

pub open_state-requires-clause-looks : goal.open_state-requires-clause-looks
open_state-requires-clause-looks g c κs within = quiet_looks g.S.Shelf.honest g.K.Invariant.keeps c.requires.quiet
