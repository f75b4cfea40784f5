use Rattle.lsm_channels.specs.Serving.{end}
use Rattle.lsm_channels.proofs.RunLaws.{refusal_said}
use Rattle.lsm_channels.proofs.program.refuse.Goals as goal

pub returns : goal.returns
returns g c =
    let old = end (g.D.Wire.Wire.descriptor c.first_of-wire.result.0)
    (g.D.Wire.Wire.happened c.first_of-wire.result.0) in
    let new = end (g.D.Wire.Wire.descriptor c.say-is_said.new.wire)
    (g.D.Wire.Wire.happened c.say-is_said.new.wire) in (
      old,
      c.first_of-wire.ensures.first,
      refusal_said (λ v. v.items) c.args.fault.now c.args.first c.refuse_opening.result
          c.say-is_said.result old new c.refuse_opening.ensures c.say-is_said.ensures.same
          c.say-is_said.ensures.said,
    )
