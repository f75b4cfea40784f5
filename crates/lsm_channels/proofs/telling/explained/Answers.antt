use Rattle.lsm_channels.proofs.TellingLaws.{explained_all}
use Rattle.lsm_channels.proofs.telling.explained.Goals as goal

pub returns-in-Ok : goal.returns-in-Ok
returns-in-Ok g c = explained_all (g.F.Exit.meaning c.args.fault.now) _ _ c.new-lines.ensures.items
    c.in-Ok.ensures
