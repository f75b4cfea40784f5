use Rattle.lsm_opening.proofs.ReadingLaws.{halted_with}
use Rattle.lsm_opening.proofs.reading.open_halted.Goals as goal

pub returns-in-Ok-clause-opened : goal.returns-in-Ok-clause-opened
returns-in-Ok-clause-opened g c =
    halted_with g.S.Shelf.honest c.parts.inside.options c.args.parts c.in-Ok.state _ _
    c.parts.view_is
    record {
      publisher = c.parts.inside.publisher;
      pinners = c.parts.inside.pinners.items;
      state = c.in-Ok.ensures.opened;
      rest = c.in-Ok.ensures.found.0;
      found = c.in-Ok.ensures.found.1;
    }
