use Rattle.lsm_channels.proofs.KeepingLaws.{quiet_given_up}
use Rattle.lsm_channels.proofs.compacting.is_settled.Goals as goal

pub returns-in-Ok-Some-clause-quiet : goal.returns-in-Ok-Some-clause-quiet
returns-in-Ok-Some-clause-quiet g c =
    quiet_given_up g.S.Shelf.honest c.args.state.now c.catch_up.new.state c.reserve.new.self c.cancel-is_given_up.new.self c.in-Ok-Some.job _ c.cancel-is_given_up.result c.catch_up.ensures.same
    (rw c.in-Ok-Some.field-0-is at c.in-Ok-Some.ensures.event) (rw c.in-Ok-Some.field-0-is at c.in-Ok-Some.ensures.ok) c.cancel-is_given_up.ensures.event c.cancel-is_given_up.ensures.ok c.cancel-is_given_up.ensures.err
