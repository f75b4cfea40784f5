use Rattle.lsm_cmd_compact.proofs.CompactOutcomes.{clears_by}
use Rattle.lsm_cmd_compact.proofs.RoundLaws.{works}
use Rattle.lsm_cmd_compact.proofs.compacting.compact_state.Goals as goal

pub returns-in-Ok-clear-clause-cleared : goal.returns-in-Ok-clear-clause-cleared
returns-in-Ok-clear-clause-cleared g c =
    clears_by g.K.Invariant.keeps c.args.state c.args.options.now.range c.in-Ok.picks
    c.in-Ok.ensures.aimed c.in-Ok-clear.ensures.cleared

pub returns-in-Ok-clear-clause-worked : goal.returns-in-Ok-clear-clause-worked
returns-in-Ok-clear-clause-worked g c =
    works (g.S.Shelf.refuses g.N.Naming.place) g.S.Shelf.honest g.K.Invariant.keeps g.N.Naming.place
    c.args.state c.args.options.now c.in-Ok.picks _ _ c.in-Ok.ensures.aimed
    c.in-Ok-clear.ensures.rounds
