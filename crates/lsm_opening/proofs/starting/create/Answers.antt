use Rattle.lsm_opening.proofs.StartLaws.{new_with}
use Rattle.lsm_opening.proofs.starting.create.Goals as goal

pub returns-in-Ok-clause-created : goal.returns-in-Ok-clause-created
returns-in-Ok-clause-created g c =
    new_with c.parts.inside.options c.args.parts c.args.number c.in-Ok.state _ _ c.parts.view_is
    record {
      publisher = c.parts.inside.publisher;
      pinners = c.parts.inside.pinners.items;
      state = c.in-Ok.ensures.created;
      sent = c.in-Ok.ensures.sent;
      missing = c.in-Ok.ensures.missing;
    }
